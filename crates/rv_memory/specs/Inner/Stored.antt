-- Bytes put into a stretch.
use Rattle.std.specs.Prelude.{ℕ, suc, List, [], ◌∷◌, slice_set}
use Rattle.rv_memory.specs.Stretches.{MappedStretch}

-- a stretch with other bytes
abbrev pub with_bytes : MappedStretch → List ℕ → MappedStretch
with_bytes stretch bytes = record { start = stretch.start; bytes = bytes; writable = stretch.writable }

-- bytes put over others, from this place on
abbrev pub stored : List ℕ → ℕ → List ℕ → List ℕ
stored bytes place [] = bytes
stored bytes place (byte ∷ more) = stored (slice_set bytes place byte) (suc place) more

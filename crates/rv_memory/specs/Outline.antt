-- Where stretches lie, and that they lie in order.
use Rattle.std.specs.Prelude.{ℕ, ◌+◌, ◌-◌, ◌^◌, ◌<◌, ◌≤◌, ◌&&◌, Bool, Option, List, [], ◌∷◌, length, map, drop, slice_get, nat_le, nat_lt, if◌then◌else◌, ⊤}
use Rattle.rv_memory.specs.Stretches.{MappedStretch}

-- what a store leaves of a stretch: its start, how many bytes it has, and whether they are writable
abbrev pub outline : List MappedStretch → List (ℕ × (ℕ × Bool))
outline stretches = map (λ (stretch : MappedStretch). (stretch.start, (length stretch.bytes, stretch.writable))) stretches

-- the first address behind a stretch
abbrev pub stretch_end : MappedStretch → ℕ
stretch_end stretch = stretch.start + length stretch.bytes

-- a stretch is not empty, and lies within the address space without being all of it
pub record IsStretch (stretch : MappedStretch) : Type 0 where
  pub some : 0 < length stretch.bytes
  pub part : length stretch.bytes < 2 ^ 32
  pub within : stretch_end stretch ≤ 2 ^ 32

-- from this address on stretches stand in the order of addresses: each ends at or before the start of the next
abbrev pub RiseFrom : ℕ → List MappedStretch → Type 0
RiseFrom low [] = ⊤
RiseFrom low (stretch ∷ stretches) = (low ≤ stretch.start) × (IsStretch stretch × RiseFrom (stretch_end stretch) stretches)

pub record AreInOrder (stretches : List MappedStretch) : Type 0 where
  pub rise : RiseFrom 0 stretches

-- the start and the length of the stretch with this number, from 0 on
abbrev pub region_at : List MappedStretch → ℕ → Option (ℕ × ℕ)
region_at stretches number = slice_get (map (λ (stretch : MappedStretch). (stretch.start, length stretch.bytes)) stretches) number

-- the bytes from an address to the end of its stretch; none where it lies in no stretch
abbrev pub bytes_behind : List MappedStretch → ℕ → List ℕ
bytes_behind [] address = []
bytes_behind (stretch ∷ stretches) address =
    if nat_le stretch.start address && nat_lt address (stretch_end stretch)
    then drop (address - stretch.start) stretch.bytes
    else bytes_behind stretches address

-- The header of an event file: this project's own. Words are stored lowest byte first.
use Rattle.std.specs.Prelude.{ℕ, List, ◌∷◌, ◌++◌}
use Rattle.rv_code.specs.Numbers.{bytes_of}

-- `AEV1`, and what a program is known by: its entry, the address of its first code word, and how many code words it has
abbrev pub event_header : (entry first count : ℕ) → List ℕ
event_header entry first count = 0x41 ∷ 0x45 ∷ 0x56 ∷ 0x31 ∷ bytes_of 4 entry ++ bytes_of 4 first ++ bytes_of 4 count

-- What an access answers: the hole that it meets, or else its value.
use Rattle.std.specs.Prelude.{ℕ, List, Option, None, Some, Result, Ok, Err}
use Rattle.rv_code.specs.Numbers.{number_of}
use Rattle.rv_memory.specs.Memory.{Cell, span, bytes_at, first_hole}
use Rattle.rv_memory.specs.declared.hole.Hole.{Hole}

abbrev pub hole_or : {A : Type 0} → Option ℕ → A → Result A Hole
hole_or None value = Ok value
hole_or (Some address) value = Err (record { address = address })

-- the number that so many bytes from an address on have, the lowest first, or the first of the addresses that isn't mapped
abbrev pub read_at : List Cell → (address size : ℕ) → Result ℕ Hole
read_at memory address size = hole_or (first_hole memory (span address size)) (number_of (bytes_at memory (span address size)))

-- Laws of what a state holds. Proofs of crates above may cite this file.
use Rattle.std.proofs.Common.{ℕ, Bool, true, false, cond, eqb, List, [], ◌∷◌, Option, Some, arith}
use Rattle.std.specs.List.{AllByRecursion}
use Rattle.rv_code.specs.Numbers.{IsByte}
use Rattle.rv_memory.specs.Memory.{Cell, cell_at, byte_of_cell, byte_at}
use Rattle.rv_machine.specs.Laws.{IsCell}

found_byte : (t : Bool) (cell : Cell) (rest : Option Cell) → IsByte cell.byte → IsByte (byte_of_cell rest) → IsByte (byte_of_cell (cond t (Some cell) rest))
found_byte true cell rest f g = f
found_byte false cell rest f g = g

-- what is read of a memory of bytes is a byte
pub byte_in_memory : (memory : List Cell) (address : ℕ) → AllByRecursion IsCell memory → IsByte (byte_at memory address)
byte_in_memory [] address all = omega arith
byte_in_memory (cell ∷ memory) address all = found_byte (eqb cell.address address) cell (cell_at memory address) all.0.byte (byte_in_memory memory address all.1)

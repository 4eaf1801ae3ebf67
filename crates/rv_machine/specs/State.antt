-- The state of a run: of one hart (RISC-V unprivileged manual, section 2.1) its pc and registers, the memory, and what
-- has come from and gone to the outside.
use Rattle.std.specs.Prelude.{ℕ, zero, suc, List, slice_index, slice_set}
use Rattle.rv_code.specs.Numbers.{wrap}
use Rattle.rv_memory.specs.Memory.{Cell}

pub record State : Type 0 where
  pub pc : ℕ
  -- x0 to x31
  pub registers : List ℕ
  pub memory : List Cell
  -- the bytes of the input that no read has taken
  pub input : List ℕ
  -- the bytes written to descriptor 1, to descriptor 2, and to 3 as events
  pub out : List ℕ
  pub err : List ℕ
  pub events : List ℕ

-- the value of a register; x0 always reads 0
abbrev pub register_of : List ℕ → ℕ → ℕ
register_of registers zero = 0
register_of registers (suc number) = slice_index registers (suc number)

-- the registers after one was written; writing x0 changes nothing
abbrev pub with_register : List ℕ → ℕ → ℕ → List ℕ
with_register registers zero value = registers
with_register registers (suc number) value = slice_set registers (suc number) (wrap value)

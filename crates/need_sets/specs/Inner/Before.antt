-- What an instruction needs, where the registers of a mask are needed behind it. Only the clauses of private functions cite this.
use Rattle.std.specs.Prelude.{◌≡◌, ◌≢◌, ◌⊎◌, ℕ, ◌<◌, Some}
use Rattle.std.specs.Int.{bit_at}
use Rattle.std.specs.List.{Contains}
use Rattle.rv_code.specs.declared.class.Class.TheVariants.{Plain}
use Rattle.rv_code.specs.declared.instr.Instr.{Instr}
use Rattle.rv_code.specs.Parts.{class_of, sources_of, written_by}

-- it reads the register, and computes what is needed from it
pub record FeedsBefore (instr : Instr) (behind register : ℕ) : Type 0 where
  pub written : ℕ
  pub class : class_of instr ≡ Plain
  pub real : 0 < register
  pub reads : Contains (sources_of instr) register
  pub writes : written_by instr ≡ Some written
  pub needs : bit_at behind written ≡ 1

-- it leaves the register as it is
pub record LeavesBefore (instr : Instr) (behind register : ℕ) : Type 0 where
  pub other : written_by instr ≢ Some register
  pub needs : bit_at behind register ≡ 1

abbrev pub NeedsBefore : Instr → (behind register : ℕ) → Type 0
NeedsBefore instr behind register = FeedsBefore instr behind register ⊎ LeavesBefore instr behind register

-- a register that the instruction writes is one of a mask
pub record GivesNeeded (instr : Instr) (behind : ℕ) : Type 0 where
  pub register : ℕ
  pub writes : written_by instr ≡ Some register
  pub needs : bit_at behind register ≡ 1

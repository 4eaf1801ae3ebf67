-- A register keeps a value modulo 2^32.
use Rattle.std.proofs.Common.{◌≡◌, ℕ, zero, suc, List, Option, Some, None, refl, ap, arith}
use Rattle.std.specs.Prelude.{slice_set}
use Rattle.std.specs.Option.{option_map_or}
use Rattle.rv_code.specs.declared.instr.Instr.{Instr}
use Rattle.rv_code.specs.Numbers.{wrap}
use Rattle.rv_code.specs.Parts.{written_by}
use Rattle.rv_machine.specs.State.{with_register}
use Rattle.regen_walk.specs.Accesses.{with_written}

module _ (registers : List ℕ) (value : ℕ) where
  same_value : wrap (wrap value) ≡ wrap value
  same_value = omega arith

  put_wrapped : (register : ℕ) → with_register registers register (wrap value) ≡ with_register registers register value
  put_wrapped zero = refl
  put_wrapped (suc register) = ap (slice_set registers (suc register)) same_value

  wrapped_if : (register : Option ℕ) → option_map_or (λ r. with_register registers r (wrap value)) register registers ≡ option_map_or (λ r. with_register registers r value) register registers
  wrapped_if None = refl
  wrapped_if (Some register) = put_wrapped register

  pub written_wrapped : (instr : Instr) → with_written instr registers (wrap value) ≡ with_written instr registers value
  written_wrapped instr = wrapped_if (written_by instr)

use Rattle.std.proofs.Common.{◌≡◌, ℕ, List, get_or, sym, subst}
use Rattle.rv_machine.proofs.Begun.{first_zero}
use Rattle.rv_machine.proofs.machine.Machine.load.Goals as goal

pub invariant_of-result : goal.invariant_of-result
invariant_of-result c = subst (λ (rs : List ℕ). get_or rs 0 0 ≡ 0) (sym c.start_registers.ensures) first_zero

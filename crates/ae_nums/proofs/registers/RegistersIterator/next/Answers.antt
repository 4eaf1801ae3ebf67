-- The first register is that of the lowest bit, and the others are those of the other bits.
use Rattle.std.proofs.Common.{length, sym, ap, ◌∙◌, arith, rules}
use Rattle.ae_nums.specs.Registers.{registers_of}
use Rattle.ae_nums.proofs.LawsOfRegisters.{registers_of-first, registers_of-none, rest_is_even}
use Rattle.ae_nums.proofs.registers.RegistersIterator.next.Goals as goal

pub invariant_of-self : goal.invariant_of-self
invariant_of-self c = rest_is_even c.self.inside.left _ c.self.invariant

pub returns-clause-steps : goal.returns-clause-steps
returns-clause-steps c = sym c.self.view_is ∙ registers_of-first c.self.inside.left (search rules) c.self.invariant (omega arith)

pub returns-clause-goes : goal.returns-clause-goes
returns-clause-goes c =
    let first = sym c.self.view_is ∙ registers_of-first c.self.inside.left (search rules) c.self.invariant (omega arith) in
    let less = ap length first in
    record { on = λ finite. (tt, tt, omega (arith, less)); keeps = tt; rests = λ finite. tt }

pub returns-then-self-eq0-clause-steps : goal.returns-then-self-eq0-clause-steps
returns-then-self-eq0-clause-steps c =
    let none = sym c.self.view_is ∙ (ap registers_of c.if-self-eq0.true ∙ registers_of-none) in (none, none)

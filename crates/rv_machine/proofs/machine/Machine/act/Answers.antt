use Rattle.std.proofs.Common.{ap}
use Rattle.rv_machine.specs.Held.{Held}
use Rattle.rv_machine.proofs.Acts.{settled_acts}
use Rattle.rv_machine.proofs.machine.Machine.act.Goals as goal

pub returns-in-Some-clause-acts : goal.returns-in-Some-clause-acts
returns-in-Some-clause-acts g c =
    settled_acts c.args.instr c.act_alone.inside.pc c.args.self.now c.act_alone-2.new.self c.settle.new.self _ c.in-Some.alone c.settle.result
    (ap (λ (held : Held). held.pc) c.act_alone.view_is) c.in-Some.ensures c.settle.ensures

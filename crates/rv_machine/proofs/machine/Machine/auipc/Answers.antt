use Rattle.rv_machine.proofs.Acts.{auipc}
use Rattle.rv_machine.proofs.machine.Machine.auipc.Goals as goal

pub returns : goal.returns
returns c = auipc c.args.pc c.args.self.now c.sets.new.self c.args.rd c.args.imm c.sets.result c.sets.ensures.gone c.sets.ensures.set

use Rattle.rv_machine.proofs.Acts.{lui}
use Rattle.rv_machine.proofs.machine.Machine.lui.Goals as goal

pub returns : goal.returns
returns c = lui c.args.pc c.args.self.now c.sets.new.self c.args.rd c.args.imm c.sets.result c.sets.ensures.gone c.sets.ensures.set

use Rattle.rv_machine.proofs.Acts.{op}
use Rattle.rv_machine.proofs.machine.Machine.op.Goals as goal

pub returns : goal.returns
returns c =
    op c.args.pc c.args.self.now c.sets.new.self c.args.op c.args.rd c.args.rs1 c.args.rs2 c.register.result c.register-2.result c.op_result-value.result c.sets.result
    c.op_result-value.ensures c.register.ensures c.register-2.ensures c.sets.ensures.gone c.sets.ensures.set

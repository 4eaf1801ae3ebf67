use Rattle.std.proofs.Common.{◌∙◌}
use Rattle.rv_machine.proofs.Acts.{bits_of, op_imm}
use Rattle.rv_machine.proofs.machine.Machine.op_imm.Goals as goal

pub returns : goal.returns
returns c =
    op_imm c.args.pc c.args.self.now c.sets.new.self c.args.op c.on_registers.result c.args.rd c.args.rs1 c.args.imm
    c.register.result c.cast_unsigned.result c.op_result-value.result c.sets.result c.on_registers.ensures c.op_result-value.ensures c.register.ensures
    (c.cast_unsigned.ensures ∙ bits_of c.args.imm c.ranges.imm) c.sets.ensures.gone c.sets.ensures.set

use Rattle.std.proofs.Common.{◌∙◌}
use Rattle.rv_machine.proofs.Acts.{bits_of, jal}
use Rattle.rv_machine.proofs.machine.Machine.jal.Goals as goal

pub returns : goal.returns
returns c =
    jal c.args.pc c.args.self.now c.jump.new.self c.jump.result c.args.rd c.args.imm c.cast_unsigned.result
    (c.cast_unsigned.ensures ∙ bits_of c.args.imm c.ranges.imm) c.jump.ensures

use Rattle.std.proofs.Common.{w32, to_z, of_z}
use Rattle.rv_code.specs.Numbers.{unsigned}
use Rattle.rv_machine.proofs.Acts.{bits_of, jalr}
use Rattle.rv_machine.proofs.machine.Machine.jalr.Goals as goal

pub returns : goal.returns
returns c =
    jalr c.args.pc c.args.self.now c.jump.new.self c.jump.result c.args.rd c.args.rs1 c.args.imm c.sum.result (unsigned (to_z w32 (of_z w32 c.args.imm)))
    c.sum.ensures (bits_of c.args.imm c.ranges.imm) c.jump.ensures

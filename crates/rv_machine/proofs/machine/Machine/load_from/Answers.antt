use Rattle.std.proofs.Common.{w32, to_z, of_z}
use Rattle.rv_code.specs.declared.instr.LoadOp.TheVariants.{Lb, Lh, Lw, Lbu, Lhu}
use Rattle.rv_code.specs.Numbers.{unsigned}
use Rattle.rv_machine.proofs.Acts.{bits_of, loads_as}
use Rattle.rv_machine.proofs.machine.Machine.load_from.Goals as goal

pub returns-in-Lb : goal.returns-in-Lb
returns-in-Lb c =
    loads_as c.args.pc c.args.self.now c.load_as.new.self c.load_as.result c.args.op Lb c.args.rd c.args.rs1 c.args.imm c.sum-address.result
    (unsigned (to_z w32 (of_z w32 c.args.imm))) c.in-Lb.is c.sum-address.ensures (bits_of c.args.imm c.ranges.imm) c.load_as.ensures

pub returns-in-Lh : goal.returns-in-Lh
returns-in-Lh c =
    loads_as c.args.pc c.args.self.now c.load_as-in-Lh.new.self c.load_as-in-Lh.result c.args.op Lh c.args.rd c.args.rs1 c.args.imm c.sum-address.result
    (unsigned (to_z w32 (of_z w32 c.args.imm))) c.in-Lh.is c.sum-address.ensures (bits_of c.args.imm c.ranges.imm) c.load_as-in-Lh.ensures

pub returns-in-Lw : goal.returns-in-Lw
returns-in-Lw c =
    loads_as c.args.pc c.args.self.now c.load_as-in-Lw.new.self c.load_as-in-Lw.result c.args.op Lw c.args.rd c.args.rs1 c.args.imm c.sum-address.result
    (unsigned (to_z w32 (of_z w32 c.args.imm))) c.in-Lw.is c.sum-address.ensures (bits_of c.args.imm c.ranges.imm) c.load_as-in-Lw.ensures

pub returns-in-Lbu : goal.returns-in-Lbu
returns-in-Lbu c =
    loads_as c.args.pc c.args.self.now c.load_as-in-Lbu.new.self c.load_as-in-Lbu.result c.args.op Lbu c.args.rd c.args.rs1 c.args.imm c.sum-address.result
    (unsigned (to_z w32 (of_z w32 c.args.imm))) c.in-Lbu.is c.sum-address.ensures (bits_of c.args.imm c.ranges.imm) c.load_as-in-Lbu.ensures

pub returns-in-Lhu : goal.returns-in-Lhu
returns-in-Lhu c =
    loads_as c.args.pc c.args.self.now c.load_as-in-Lhu.new.self c.load_as-in-Lhu.result c.args.op Lhu c.args.rd c.args.rs1 c.args.imm c.sum-address.result
    (unsigned (to_z w32 (of_z w32 c.args.imm))) c.in-Lhu.is c.sum-address.ensures (bits_of c.args.imm c.ranges.imm) c.load_as-in-Lhu.ensures

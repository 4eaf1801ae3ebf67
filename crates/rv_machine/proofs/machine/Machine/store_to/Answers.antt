use Rattle.std.proofs.Common.{w32, to_z, of_z}
use Rattle.rv_code.specs.declared.instr.StoreOp.TheVariants.{Sb, Sh, Sw}
use Rattle.rv_code.specs.Numbers.{unsigned}
use Rattle.rv_machine.proofs.Acts.{bits_of, stores_as}
use Rattle.rv_machine.proofs.machine.Machine.store_to.Goals as goal

pub returns-in-Sb : goal.returns-in-Sb
returns-in-Sb c =
    stores_as c.args.pc c.args.self.now c.store_as.new.self c.store_as.result c.args.op Sb c.args.rs1 c.args.rs2 c.args.imm c.sum-address.result
    (unsigned (to_z w32 (of_z w32 c.args.imm))) c.register-value.result c.in-Sb.is c.sum-address.ensures (bits_of c.args.imm c.ranges.imm) c.register-value.ensures c.store_as.ensures

pub returns-in-Sh : goal.returns-in-Sh
returns-in-Sh c =
    stores_as c.args.pc c.args.self.now c.store_as-in-Sh.new.self c.store_as-in-Sh.result c.args.op Sh c.args.rs1 c.args.rs2 c.args.imm c.sum-address.result
    (unsigned (to_z w32 (of_z w32 c.args.imm))) c.register-value.result c.in-Sh.is c.sum-address.ensures (bits_of c.args.imm c.ranges.imm) c.register-value.ensures c.store_as-in-Sh.ensures

pub returns-in-Sw : goal.returns-in-Sw
returns-in-Sw c =
    stores_as c.args.pc c.args.self.now c.store_as-in-Sw.new.self c.store_as-in-Sw.result c.args.op Sw c.args.rs1 c.args.rs2 c.args.imm c.sum-address.result
    (unsigned (to_z w32 (of_z w32 c.args.imm))) c.register-value.result c.in-Sw.is c.sum-address.ensures (bits_of c.args.imm c.ranges.imm) c.register-value.ensures c.store_as-in-Sw.ensures

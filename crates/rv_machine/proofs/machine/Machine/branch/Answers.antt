use Rattle.std.proofs.Common.{◌∙◌, sym, refl}
use Rattle.rv_machine.proofs.Acts.{bits_of, branch_taken, branch_passed}
use Rattle.rv_machine.proofs.machine.Machine.branch.Goals as goal

pub returns-then-is_taken : goal.returns-then-is_taken
returns-then-is_taken c =
    branch_taken c.args.pc c.args.self.now c.jump.new.self c.jump.result c.args.op c.args.rs1 c.args.rs2 c.args.imm
    c.register.result c.register-2.result c.cast_unsigned.result
    (sym c.is_taken.ensures ∙ c.if-is_taken.true) c.register.ensures c.register-2.ensures
    (c.cast_unsigned.ensures ∙ bits_of c.args.imm c.ranges.imm) c.jump.ensures

pub returns-else-is_taken : goal.returns-else-is_taken
returns-else-is_taken c =
    branch_passed c.args.pc c.args.self.now c.args.self.now c.args.op c.args.rs1 c.args.rs2 c.args.imm c.register.result c.register-2.result c.on_from.result
    (sym c.is_taken.ensures ∙ c.if-is_taken.false) c.register.ensures c.register-2.ensures c.on_from.ensures refl

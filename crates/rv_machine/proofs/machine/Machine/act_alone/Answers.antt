use Rattle.std.proofs.Common.{refl}
use Rattle.rv_code.specs.declared.ending.Ending.TheVariants.{Breakpoint, Illegal}
use Rattle.rv_code.specs.declared.instr.Instr.TheVariants.{Fence, Ebreak, Bad}
use Rattle.rv_machine.specs.declared.acted.Alone.{Alone}
use Rattle.rv_machine.specs.Inner.Advance.{at}
use Rattle.rv_machine.proofs.Acts.{alone_as, ends_as, fence, breakpoint, illegal}
use Rattle.rv_machine.proofs.machine.Machine.act_alone.Goals as goal

pub returns-in-Fence : goal.returns-in-Fence
returns-in-Fence c =
    alone_as c.args.instr (Fence c.in-Fence.field-0) c.args.pc c.args.self.now c.args.self.now (Alone.Went c.on_from.result) c.in-Fence.is
    (fence c.args.pc c.args.self.now c.args.self.now c.in-Fence.field-0 c.on_from.result c.on_from.ensures refl)

pub returns-in-Ebreak : goal.returns-in-Ebreak
returns-in-Ebreak c = ends_as c.args.instr Ebreak c.args.pc c.args.self.now Breakpoint c.in-Ebreak.is (breakpoint (at c.args.pc c.args.self.now))

pub returns-in-Bad : goal.returns-in-Bad
returns-in-Bad c =
    ends_as c.args.instr (Bad c.in-Bad.word) c.args.pc c.args.self.now (Illegal c.in-Bad.word) c.in-Bad.is (illegal (at c.args.pc c.args.self.now) c.in-Bad.word)

use Rattle.std.proofs.Common.{subst}
use Rattle.rv_machine.specs.declared.acted.Alone.{Alone}
use Rattle.rv_machine.specs.Inner.Advance.{ActsAlone, made_at}
use Rattle.rv_machine.proofs.Advanced.{quick_step}
use Rattle.rv_machine.proofs.machine.Machine.quick.Goals as goal

pub returns-in-Went : goal.returns-in-Went
returns-in-Went c =
    let before = c.fetch.new.self in
    let now = c.act_alone.new.self in
    quick_step c.args.pc c.args.self.now before now c.in_ok-instr.instr c.in-Went.gone c.fetch.ensures.same c.in_ok-instr.ensures.instr
    (subst (λ (a : Alone). ActsAlone (made_at c.in_ok-instr.instr c.args.pc before) c.args.pc before a now) c.in-Went.is c.in_ok-gone.ensures)

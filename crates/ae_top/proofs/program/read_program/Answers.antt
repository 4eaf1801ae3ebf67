use Rattle.std.proofs.Common.{Ok, Option, ℕ, subst}
use Rattle.ae_ports.specs.Files.{TellsSize}
use Rattle.ae_top.proofs.TooLong.{too_long}
use Rattle.ae_top.proofs.program.read_program.Goals as goal

pub returns-then-size-gt-FILE_LIMIT-clause-lacks : goal.returns-then-size-gt-FILE_LIMIT-clause-lacks
returns-then-size-gt-FILE_LIMIT-clause-lacks g c =
    let told = g.S.Store.told c.args.store.now in
    too_long told c.args.name.now c.in-Ok-Some.size
    (subst (λ (size : Option ℕ). TellsSize told c.args.name.now (Ok size)) c.in-Ok-Some.field-0-is c.in-Ok-Some.ensures.content) c.if-size-gt-FILE_LIMIT.true

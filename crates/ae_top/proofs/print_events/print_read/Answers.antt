use Rattle.std.proofs.Common.{ℕ, List, inr, refl, subst}
use Rattle.ae_print.specs.EventText.{IsBegunEventText}
use Rattle.ae_print.specs.SomeText.{AppendsFrontOfSome}
use Rattle.schema_form.specs.LookUps.{schema_shape}
use Rattle.ae_top.proofs.print_events.print_read.Goals as goal

pub returns-clause-gets : goal.returns-clause-gets
returns-clause-gets g c =
    let before = g.O.Sink.told c.args.out.now in
    let now = g.O.Sink.told c.print_events.new.sink in
    inr (refl, subst (λ (bytes : List ℕ). AppendsFrontOfSome (IsBegunEventText (schema_shape c.args.files.schema) bytes) before now) c.new-source.ensures c.in-Err.ensures.front)

use Rattle.std.proofs.Common.{List, sym, ap, subst, ◌∙◌, ℕ, Option}
use Rattle.std.specs.Prelude.{OnErr}
use Rattle.ae_ports.specs.Content.{AppendsFront}
use Rattle.rv_code.specs.declared.ending.Ending.{Ending}
use Rattle.rv_code.specs.declared.image.Mark.{Mark}
use Rattle.rv_machine.specs.Events.{address_at_end, end_of_run, end_record, original_of}
use Rattle.rv_machine.proofs.recording.put_end.Goals as goal

pub returns-in-Some-clause-front : goal.returns-in-Some-clause-front
returns-in-Some-clause-front g c =
    let ending = c.in-Some.ending in
    let bytes =
    c.end_record.ensures
    ∙ ap (λ (at : ℕ). end_record at ending) (c.end_address-address.ensures ∙ ap (λ (map : List Mark). address_at_end (original_of map c.args.pc) ending) c.as_slice.ensures)
    ∙ ap (λ (e : Option Ending). end_of_run c.args.note.now c.args.pc e) (sym c.in-Some.is)
    in
    subst (λ (given : List ℕ). OnErr c.write_all.result (AppendsFront (g.Q.Sink.told c.args.events.now) (g.Q.Sink.told c.write_all.new.sink) given)) bytes c.write_all.ensures.front

use Rattle.std.proofs.Common.{rules}
use Rattle.ae_ports.proofs.LawsOfFaults.{HasCause-failed, HasCause-at, HasCause-success}
use Rattle.ae_print.specs.EventText.{IsBegunEventText, to_its_stop, IsEventText}
use Rattle.ae_print.proofs.EventsRead.{after_error}
use Rattle.ae_print.proofs.SomeFinished.{some_written, some_all, some_front, some_let_go}
use Rattle.ae_print.proofs.events.print_events.Goals as goal

pub returns-in_err-stop-clause-front : goal.returns-in_err-stop-clause-front
returns-in_err-stop-clause-front g c =
    let is_begun = IsBegunEventText (g.H.Shape.shown c.args.shape.now) c.args.events.now in
    let some = c.in_err-stop.ensures.front in
    let written = some_written g.K.Sink.told g.K.Sink.faults g.K.Sink.same_rest is_begun _ _ _ c.new-lines.ensures.begun some in
    after_error _ _ (some_let_go g.K.Sink.told g.K.Sink.faults g.K.Sink.same_rest is_begun _ _ _ some.text (search rules) some.is written.front)

pub returns-in_err-stop-clause-cause : goal.returns-in_err-stop-clause-cause
returns-in_err-stop-clause-cause g c =
    let is_begun = IsBegunEventText (g.H.Shape.shown c.args.shape.now) c.args.events.now in
    let some = c.in_err-stop.ensures.front in
    let written = some_written g.K.Sink.told g.K.Sink.faults g.K.Sink.same_rest is_begun _ _ _ c.new-lines.ensures.begun some in
    let broken = c.in_err-stop.ensures.broken in
    HasCause-at _ _ _ _ (search rules) (HasCause-failed _ _ _ c.from_residual.ensures.0 written.later (written.risen broken))

pub returns-in_err-finish-clause-front : goal.returns-in_err-finish-clause-front
returns-in_err-finish-clause-front g c =
    let shape = g.H.Shape.shown c.args.shape.now in
    let bytes = c.args.events.now in
    let some = c.in_ok-stop.ensures.all in
    let written = some_written g.K.Sink.told g.K.Sink.faults g.K.Sink.same_rest (IsEventText shape bytes c.in_ok-stop.stop) _ _ _ c.new-lines.ensures.begun some in
    after_error _ _ (some_front g.K.Sink.told g.K.Sink.faults g.K.Sink.same_rest (IsBegunEventText shape bytes) _ c.finish.new.self.sink.now _ some.text _ (search rules)
    (to_its_stop c.in_ok-stop.stop some.is) (c.finish.ensures.finished _ some.text written))

pub returns-in_err-finish-clause-cause : goal.returns-in_err-finish-clause-cause
returns-in_err-finish-clause-cause g c =
    let shape = g.H.Shape.shown c.args.shape.now in
    let bytes = c.args.events.now in
    let some = c.in_ok-stop.ensures.all in
    let written = some_written g.K.Sink.told g.K.Sink.faults g.K.Sink.same_rest (IsEventText shape bytes c.in_ok-stop.stop) _ _ _ c.new-lines.ensures.begun some in
    let cause = (c.in_err-finish.ensures.finished _ some.text written).cause in
    HasCause-at _ _ _ _ (search rules) (HasCause-failed _ _ _ c.from_residual-in_err-finish.ensures.0 cause.later cause.risen)

pub returns-clause-all : goal.returns-clause-all
returns-clause-all g c =
    let shape = g.H.Shape.shown c.args.shape.now in
    let bytes = c.args.events.now in
    let some = c.in_ok-stop.ensures.all in
    let written = some_written g.K.Sink.told g.K.Sink.faults g.K.Sink.same_rest (IsEventText shape bytes c.in_ok-stop.stop) _ _ _ c.new-lines.ensures.begun some in
    some_all g.K.Sink.told g.K.Sink.faults g.K.Sink.same_rest (IsEventText shape bytes c.in_ok-stop.stop) _ c.finish.new.self.sink.now _ some.text _ (search rules) some.is
    (c.in_ok-finish.ensures.finished _ some.text written)

pub returns-clause-cause : goal.returns-clause-cause
returns-clause-cause g c =
    let shape = g.H.Shape.shown c.args.shape.now in
    let bytes = c.args.events.now in
    let some = c.in_ok-stop.ensures.all in
    let written = some_written g.K.Sink.told g.K.Sink.faults g.K.Sink.same_rest (IsEventText shape bytes c.in_ok-stop.stop) _ _ _ c.new-lines.ensures.begun some in
    let cause = (c.in_ok-finish.ensures.finished _ some.text written).cause in
    HasCause-at _ _ _ _ (search rules) (HasCause-success _ _ c.in_ok-stop.stop _ cause)

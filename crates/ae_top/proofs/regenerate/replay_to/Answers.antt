use Rattle.std.proofs.Common.{[], refl, rules}
use Rattle.ae_nums.specs.Trace.{trace_text}
use Rattle.ae_nums.proofs.LawsOfTraces.{AppendsFront-items}
use Rattle.ae_ports.proofs.LawsOfFaults.{HasCause-failed, HasCause-at, HasCause-success}
use Rattle.ae_top.specs.Regenerate.{IsBegunTraceOf, IsTraceOf}
use Rattle.ae_top.proofs.Regenerated.{all_at, begun_of, front_at}
use Rattle.ae_top.proofs.regenerate.replay_to.Goals as goal

-- the sink failed in the midst of the walk
pub returns-in_err-halted-clause-front : goal.returns-in_err-halted-clause-front
returns-in_err-halted-clause-front g c =
    let sink = g.K.Sink.told c.args.sink.now in
    let sink_now = g.K.Sink.told c.replay.new.items.sink.now in
    let begun = c.in_err-halted.ensures.front in
    let written = begun.front.behind c.args.sink.now [] c.new-lines.ensures.begun in
    front_at _ (IsBegunTraceOf c.args.schema.now c.args.events.now) sink sink_now _ (search rules) (
      trace_text begun.items,
      record { records = begun.records; begins = begun.begins; items = begun.items; are = begun.items_of; is = refl },
      AppendsFront-items sink sink_now begun.items begun.count written.front,
    )

-- the last lines couldn't be handed on
pub returns-in_err-finish-clause-front : goal.returns-in_err-finish-clause-front
returns-in_err-finish-clause-front g c =
    let all = c.in_ok-halted.ensures.all in
    let text = trace_text all.0 in
    let written = all.2.behind c.args.sink.now [] c.new-lines.ensures.begun in
    front_at _ (IsBegunTraceOf c.args.schema.now c.args.events.now) (g.K.Sink.told c.args.sink.now) (g.K.Sink.told c.finish.new.self.sink.now) _ (search rules) (
      text,
      begun_of c.args.schema.now c.args.events.now c.in_ok-halted.halted text (record { items = all.0; are = all.1; is = refl }),
      (c.in_err-finish.ensures.finished c.args.sink.now text written).front,
    )

pub returns-in_err-finish-clause-cause : goal.returns-in_err-finish-clause-cause
returns-in_err-finish-clause-cause g c =
    let all = c.in_ok-halted.ensures.all in
    let written = all.2.behind c.args.sink.now [] c.new-lines.ensures.begun in
    let cause = (c.in_err-finish.ensures.finished c.args.sink.now (trace_text all.0) written).cause in
    HasCause-at _ _ _ _ (search rules) (HasCause-failed _ _ _ c.from_residual-in_err-finish.ensures.0 cause.later cause.risen)

-- all lines were handed on
pub returns-clause-all : goal.returns-clause-all
returns-clause-all g c =
    let all = c.in_ok-halted.ensures.all in
    let text = trace_text all.0 in
    let written = all.2.behind c.args.sink.now [] c.new-lines.ensures.begun in
    all_at (IsTraceOf c.args.schema.now c.args.events.now c.in_ok-halted.halted) (g.K.Sink.told c.args.sink.now) (g.K.Sink.told c.finish.new.self.sink.now) _ (search rules)
    (text, record { items = all.0; are = all.1; is = refl }, (c.in_ok-finish.ensures.finished c.args.sink.now text written).all)

pub returns-clause-cause : goal.returns-clause-cause
returns-clause-cause g c =
    let all = c.in_ok-halted.ensures.all in
    let written = all.2.behind c.args.sink.now [] c.new-lines.ensures.begun in
    let cause = (c.in_ok-finish.ensures.finished c.args.sink.now (trace_text all.0) written).cause in
    HasCause-at _ _ _ _ (search rules) (HasCause-success _ _ c.in_ok-halted.halted _ cause)

use Rattle.std.proofs.Common.{◌≡◌, ℕ, List, [], Ok, refl}
use Rattle.ev_format.specs.declared.place.Place.{Place}
use Rattle.ev_format.specs.declared.place.Place.TheVariants.{Start}
use Rattle.ev_format.specs.Reading.{ReadsOne, StopsWith, place_behind}
use Rattle.ev_format.proofs.LawsOfReadings.{at_place}
use Rattle.ae_nums.proofs.LawsOfWriters.{Puts-none}
use Rattle.ae_print.specs.EventText.{IsBegunEventText, to_its_stop, IsEventText, record_line, stop_text}
use Rattle.ae_print.specs.Inner.EventsRead.{IsReadTo}
use Rattle.ae_print.proofs.EventsRead.{after_error, all_read, begun, none_read, one_read}
use Rattle.ae_print.proofs.Lines.{puts_anyway, some_both}
use Rattle.ae_print.proofs.events.write_events.Goals as goal

pub loop-offset-init : goal.loop-offset-init
loop-offset-init g c =
    let shape = g.H.Shape.shown c.args.shape.now in
    (Start, c.start-records.ensures, record { text = []; is = none_read shape c.args.events.now; puts = Puts-none _ (g.met.K.Sink.rest_stays _) })

pub loop-offset-preserved : goal.loop-offset-preserved
loop-offset-preserved g c =
    let shape = g.H.Shape.shown c.args.shape.now in
    let all = c.args.events.now in
    let left = c.loop-offset.events in
    let rest = c.read.new.source in
    let place : Place = c.loop-offset.invariant.0 in
    let next : Place = place_behind c.in-Ok.offset c.read.new.rec in
    let line : List ℕ = record_line (c.in-Ok.offset, c.read.new.rec) in
    let one = at_place c.loop-offset.records place (λ at. ReadsOne shape at left rest (c.in-Ok.offset, c.read.new.rec) × (c.read.new.self ≡ Ok next)) c.loop-offset.invariant.1
    c.in-Ok.ensures.whole in (
      next,
      one.1,
      some_both g.met.K.Sink.rest_joins _ _ _ (IsReadTo shape all place left) (λ written. written ≡ line) (IsReadTo shape all next rest)
          (λ text written read is. one_read shape all place left rest text written (c.in-Ok.offset, c.read.new.rec) read one.0 is)
          c.loop-offset.invariant.2 (record { text = line; is = refl; puts = puts_anyway _ _ line c.write_record.result c.write_record.ensures }),
    )

pub returns-in_err-write_record-in-Ok-clause-front : goal.returns-in_err-write_record-in-Ok-clause-front
returns-in_err-write_record-in-Ok-clause-front g c =
    let shape = g.H.Shape.shown c.args.shape.now in
    let all = c.args.events.now in
    let left = c.loop-offset.events in
    let rest = c.read.new.source in
    let place : Place = c.loop-offset.invariant.0 in
    let next : Place = place_behind c.in-Ok.offset c.read.new.rec in
    let line : List ℕ = record_line (c.in-Ok.offset, c.read.new.rec) in
    let one = at_place c.loop-offset.records place (λ at. ReadsOne shape at left rest (c.in-Ok.offset, c.read.new.rec) × (c.read.new.self ≡ Ok next)) c.loop-offset.invariant.1
    c.in-Ok.ensures.whole in
    after_error _ c.from_residual.result (some_both g.met.K.Sink.rest_joins _ _ _ (IsReadTo shape all place left) (λ written. written ≡ line) (IsBegunEventText shape all)
    (λ text written read is. begun shape all next rest _ (one_read shape all place left rest text written (c.in-Ok.offset, c.read.new.rec) read one.0 is))
    c.loop-offset.invariant.2 (record { text = line; is = refl; puts = puts_anyway _ _ line c.write_record.result c.write_record.ensures }))

pub returns-in_err-write_stop-in-Err-clause-front : goal.returns-in_err-write_stop-in-Err-clause-front
returns-in_err-write_stop-in-Err-clause-front g c =
    let shape = g.H.Shape.shown c.args.shape.now in
    let all = c.args.events.now in
    let left = c.loop-offset.events in
    let place : Place = c.loop-offset.invariant.0 in
    let line : List ℕ = stop_text c.in-Err.stop in
    let stops = at_place c.loop-offset.records place (λ at. StopsWith shape at left c.in-Err.stop) c.loop-offset.invariant.1 c.in-Err.ensures.stopped in
    after_error _ c.from_residual-in_err-write_stop-in-Err.result (some_both g.met.K.Sink.rest_joins _ _ _ (IsReadTo shape all place left) (λ written. written ≡ line) (IsBegunEventText shape all)
    (λ text written read is. to_its_stop c.in-Err.stop (all_read shape all place left text written c.in-Err.stop read stops is))
    c.loop-offset.invariant.2 (record { text = line; is = refl; puts = puts_anyway _ _ line c.write_stop.result c.write_stop.ensures }))

pub returns-in-Err-clause-all : goal.returns-in-Err-clause-all
returns-in-Err-clause-all g c =
    let shape = g.H.Shape.shown c.args.shape.now in
    let all = c.args.events.now in
    let left = c.loop-offset.events in
    let place : Place = c.loop-offset.invariant.0 in
    let line : List ℕ = stop_text c.in-Err.stop in
    let stops = at_place c.loop-offset.records place (λ at. StopsWith shape at left c.in-Err.stop) c.loop-offset.invariant.1 c.in-Err.ensures.stopped in
    some_both g.met.K.Sink.rest_joins _ _ _ (IsReadTo shape all place left) (λ written. written ≡ line) (IsEventText shape all c.in-Err.stop)
    (λ text written read is. all_read shape all place left text written c.in-Err.stop read stops is)
    c.loop-offset.invariant.2 (record { text = line; is = refl; puts = puts_anyway _ _ line c.write_stop.result c.write_stop.ensures })

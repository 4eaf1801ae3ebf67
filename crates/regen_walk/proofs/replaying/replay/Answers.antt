use Rattle.std.proofs.Common.{◌≡◌, ℕ, Ok, Err, refl, sym, ap, subst, ◌∙◌}
use Rattle.ae_ports.specs.Fault.{HasCause}
use Rattle.ev_format.specs.declared.place.Place.{Place}
use Rattle.ev_format.specs.declared.place.Place.TheVariants.{Start}
use Rattle.ev_format.specs.Reading.{ReadsOne, StopsWith, place_behind}
use Rattle.ev_format.proofs.LawsOfReadings.{at_place}
use Rattle.schema_form.specs.LookUps.{schema_shape}
use Rattle.regen_walk.specs.declared.replaying.Halted.{Halted}
use Rattle.regen_walk.specs.declared.turn.WalkFault.{WalkFault}
use Rattle.regen_walk.specs.Promises.{AdvancesFrom, WalkRises}
use Rattle.regen_walk.proofs.Replayed.{all_replayed, broken_off, gone_astray, none_replayed, one_replayed}
use Rattle.regen_walk.proofs.replaying.replay.Goals as goal

pub loop-offset-init : goal.loop-offset-init
loop-offset-init g c = (
  Start,
  c.start-records.ensures,
  none_replayed c.args.schema.now c.args.events.now c.args.walk.now _ c.requires.position c.requires.registers (g.met.K.Taker.took_nothing c.args.items.now),
  c.requires.over,
  refl,
  g.met.K.Taker.rest_stays c.args.items.now,
)

pub loop-offset-preserved : goal.loop-offset-preserved
loop-offset-preserved g c =
    let shape = schema_shape c.args.schema.now in
    let left = c.loop-offset.events in
    let rest = c.read.new.source in
    let place : Place = c.loop-offset.invariant.0 in
    let next : Place = place_behind c.in-Ok.offset c.read.new.rec in
    let one = at_place c.loop-offset.records place (λ at. ReadsOne shape at left rest (c.in-Ok.offset, c.read.new.rec) × (c.read.new.self ≡ Ok next)) c.loop-offset.invariant.1
    c.in-Ok.ensures.whole in
    let moves = c.in-Ok-advance.ensures.moves in (
      next,
      one.1,
      one_replayed c.args.schema.now c.requires.over.valid c.args.events.now place left rest c.loop-offset.walk _ _ _
          (g.met.K.Taker.took_both c.args.items.now c.loop-offset.items c.advance.new.items) c.loop-offset.invariant.2 (c.in-Ok.offset, c.read.new.rec) one.0
          c.advance.new.self moves.0 moves.1 moves.2,
      c.in-Ok-advance.ensures.over,
      c.in-Ok-advance.ensures.cause ∙ c.loop-offset.invariant.4,
      g.met.K.Taker.rest_joins c.args.items.now c.loop-offset.items c.advance.new.items c.loop-offset.invariant.5 c.in-Ok-advance.ensures.rest,
    )

pub returns-in-Err-Astray-clause-all : goal.returns-in-Err-Astray-clause-all
returns-in-Err-Astray-clause-all g c =
    let shape = schema_shape c.args.schema.now in
    let left = c.loop-offset.events in
    let rest = c.read.new.source in
    let place : Place = c.loop-offset.invariant.0 in
    let next : Place = place_behind c.in-Ok.offset c.read.new.rec in
    let one = at_place c.loop-offset.records place (λ at. ReadsOne shape at left rest (c.in-Ok.offset, c.read.new.rec) × (c.read.new.self ≡ Ok next)) c.loop-offset.invariant.1
    c.in-Ok.ensures.whole in
    let so_far = c.loop-offset.invariant.2 in (
      so_far.moved.items,
      gone_astray c.args.schema.now c.requires.over.valid c.args.events.now place left rest c.loop-offset.walk _ _ (g.K.Taker.took c.args.items.now c.advance.new.items)
          (g.met.K.Taker.took_both c.args.items.now c.loop-offset.items c.advance.new.items) so_far (c.in-Ok.offset, c.read.new.rec) one.0 c.advance.new.self
          (subst (λ (fault : WalkFault). AdvancesFrom c.args.schema.now c.loop-offset.walk.position c.loop-offset.walk c.read.new.rec (g.K.Taker.took c.loop-offset.items c.advance.new.items) c.advance.new.self (Err fault))
          c.in-Err-Astray.field-0-is c.in-Err-Astray.ensures.moves),
      subst (λ items. g.K.Taker.took c.args.items.now items so_far.moved.items) (sym (c.advance.ensures.untouched (c.in-Err-Astray.is ∙ ap (λ (fault : WalkFault). Err fault) c.in-Err-Astray.field-0-is))) so_far.given,
    )

pub returns-in-Err-Failed-clause-front : goal.returns-in-Err-Failed-clause-front
returns-in-Err-Failed-clause-front g c =
    let shape = schema_shape c.args.schema.now in
    let left = c.loop-offset.events in
    let rest = c.read.new.source in
    let place : Place = c.loop-offset.invariant.0 in
    let next : Place = place_behind c.in-Ok.offset c.read.new.rec in
    let one = at_place c.loop-offset.records place (λ at. ReadsOne shape at left rest (c.in-Ok.offset, c.read.new.rec) × (c.read.new.self ≡ Ok next)) c.loop-offset.invariant.1
    c.in-Ok.ensures.whole in
    broken_off c.args.schema.now c.requires.over.valid c.args.events.now place left rest c.loop-offset.walk _ _ _
    (g.met.K.Taker.took_both c.args.items.now c.loop-offset.items c.advance.new.items) c.loop-offset.invariant.2 (c.in-Ok.offset, c.read.new.rec) one.0
    (subst (λ (fault : WalkFault). AdvancesFrom c.args.schema.now c.loop-offset.walk.position c.loop-offset.walk c.read.new.rec (g.K.Taker.took c.loop-offset.items c.advance.new.items) c.advance.new.self (Err fault))
    c.in-Err-Failed.field-0-is c.in-Err-Failed.ensures.moves)

pub returns-in-Err-Failed-clause-cause : goal.returns-in-Err-Failed-clause-cause
returns-in-Err-Failed-clause-cause g c =
    subst (λ (before : ℕ). HasCause {T = Halted} before (g.K.Taker.faults c.advance.new.items) (Err _)) c.loop-offset.invariant.4
    (record {
      later = c.advance.ensures.later;
      same = tt;
      risen =
          subst (λ (fault : WalkFault). WalkRises (g.K.Taker.faults c.loop-offset.items) (g.K.Taker.faults c.advance.new.items) (Err fault)) c.in-Err-Failed.field-0-is c.in-Err-Failed.ensures.cause;
    })

pub returns-in-Err-clause-all : goal.returns-in-Err-clause-all
returns-in-Err-clause-all g c =
    let shape = schema_shape c.args.schema.now in
    let left = c.loop-offset.events in
    let place : Place = c.loop-offset.invariant.0 in
    let stops = at_place c.loop-offset.records place (λ at. StopsWith shape at left c.in-Err.stop) c.loop-offset.invariant.1 c.in-Err.ensures.stopped in
    let so_far = c.loop-offset.invariant.2 in
    (so_far.moved.items, all_replayed c.args.schema.now c.args.events.now place left c.loop-offset.walk _ so_far c.in-Err.stop stops, so_far.given)

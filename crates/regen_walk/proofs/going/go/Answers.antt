use Rattle.std.proofs.Common.{◌≤◌, ◌++◌, ◌+◌, ℕ, List, [], length, Some, refl, sym, take, ap, subst, ◌∙◌, arith}
use Rattle.ae_nums.specs.declared.item.Item.{Item}
use Rattle.ae_ports.proofs.LawsOfFaults.{OnErr-always}
use Rattle.rv_machine.specs.Outcomes.{TookFront}
use Rattle.regen_path.specs.declared.arcs.Arc.{Arc}
use Rattle.regen_path.specs.Arcs.{HasArc}
use Rattle.regen_path.specs.Walks.{IsWalk}
use Rattle.schema_form.specs.SchemaParts.{SchemaParts}
use Rattle.schema_form.specs.Valid.{IsSchema}
use Rattle.regen_walk.specs.Inner.Going.{GoesAlong, items_at}
use Rattle.regen_walk.proofs.Onward.{breaks_off}
use Rattle.regen_walk.proofs.Towards.{begins, goes_further, arrives_early, arrives_last}
use Rattle.regen_walk.proofs.WordsMet.{place_within}
use Rattle.regen_walk.proofs.going.go.Goals as goal

pub loop-init : goal.loop-init
loop-init g c = (
  [],
  begins c.args.schema.now (subst IsSchema c.schema.view_is c.schema.invariant.parts) c.args.paths.now c.requires.ways c.args.from c.args.goal c.args.registers.now c.requires.from c.requires.leads.0 c.requires.leads.1,
  g.met.K.Taker.took_nothing c.args.items.now,
  refl,
  g.met.K.Taker.rest_stays c.args.items.now,
)

pub way_towards-requires-clause-here : goal.way_towards-requires-clause-here
way_towards-requires-clause-here g c =
    let within = place_within c.args.schema.now (subst IsSchema c.schema.view_is c.schema.invariant.parts) c.loop.spot c.loop.invariant.1.stands in
    omega (arith, within, c.requires.ways.long)

pub way_towards-requires-clause-goal : goal.way_towards-requires-clause-goal
way_towards-requires-clause-goal g c =
    let within = place_within c.args.schema.now (subst IsSchema c.schema.view_is c.schema.invariant.parts) c.args.goal c.requires.goal in
    omega (arith, within, c.requires.ways.long)

pub loop-preserved : goal.loop-preserved
loop-preserved g c =
    let led = c.in-Some.ensures.some in (
      c.loop.invariant.0 ++ items_at c.loop.spot.address c.pass-access.result,
      goes_further c.args.schema.now (subst IsSchema c.schema.view_is c.schema.invariant.parts) c.args.paths.now c.requires.ways c.args.from c.args.goal c.args.registers.now c.loop.spot c.pass-access.new.spot c.loop.registers
          c.pass-access.new.registers c.loop.invariant.0 c.loop.counter c.in-Some.onward.taken c.pass-access.result c.loop.invariant.1 led.arc led.rest led.kind led.walks (led.way ∙ ap (λ (place : ℕ). Some place) (sym c.pass-access.ensures.place)) c.pass-access.ensures.moves,
      g.met.K.Taker.took_both c.args.items.now c.loop.items c.give.new.items c.loop.invariant.0 (items_at c.loop.spot.address c.pass-access.result) c.loop.invariant.2 c.in_ok-give.ensures.all,
      c.in_ok-give.ensures.cause.same ∙ c.loop.invariant.3,
      g.met.K.Taker.rest_joins c.args.items.now c.loop.items c.give.new.items c.loop.invariant.4 c.in_ok-give.ensures.rest,
    )

pub returns-after-loop-clause-all : goal.returns-after-loop-clause-all
returns-after-loop-clause-all g c = λ walk walks.
    let count = ap length (c.as_slice-end.ensures ∙ ap (λ (parts : SchemaParts). parts.words) c.schema.view_is) in
    let enough : length c.args.schema.now.words ≤ c.loop.counter = omega (arith, count, c.loop-test.false) in (
      c.loop.invariant.0,
      arrives_last c.args.schema.now (subst IsSchema c.schema.view_is c.schema.invariant.parts) c.args.paths.now c.requires.ways c.args.from c.args.goal c.args.registers.now c.loop.spot c.loop.registers c.loop.invariant.0
          c.loop.counter c.requires.goal c.loop.invariant.1 enough walk walks,
      c.loop.invariant.2,
    )

pub returns-in_default-clause-all : goal.returns-in_default-clause-all
returns-in_default-clause-all g c = λ walk walks. (
  c.loop.invariant.0,
  arrives_early c.args.schema.now (subst IsSchema c.schema.view_is c.schema.invariant.parts) c.args.paths.now c.requires.ways c.args.from c.args.goal c.args.registers.now c.loop.spot c.loop.registers c.loop.invariant.0
      c.loop.counter c.requires.goal c.loop.invariant.1 c.in_default.ensures.none walk walks,
  c.loop.invariant.2,
)

pub returns-in_err-give-clause-front : goal.returns-in_err-give-clause-front
returns-in_err-give-clause-front g c =
    let led = c.in-Some.ensures.some in
    let front = c.in_err-give.ensures.front in
    let on =
    goes_further c.args.schema.now (subst IsSchema c.schema.view_is c.schema.invariant.parts) c.args.paths.now c.requires.ways c.args.from c.args.goal c.args.registers.now c.loop.spot c.pass-access.new.spot c.loop.registers
    c.pass-access.new.registers c.loop.invariant.0 c.loop.counter c.in-Some.onward.taken c.pass-access.result c.loop.invariant.1 led.arc led.rest led.kind led.walks (led.way ∙ ap (λ (place : ℕ). Some place) (sym c.pass-access.ensures.place)) c.pass-access.ensures.moves
    in
    let broken
    : (walk : List Arc) → IsWalk (HasArc c.args.paths.now) c.args.from.place c.args.goal.place walk → (given : List Item) × (there : List ℕ)
    × GoesAlong c.args.schema.now walk c.args.from.address c.args.goal.address c.args.registers.now there given × TookFront (g.K.Taker.took c.args.items.now c.give.new.items) given =
    breaks_off c.args.schema.now (subst IsSchema c.schema.view_is c.schema.invariant.parts) c.args.paths.now c.requires.ways c.args.goal c.requires.goal c.args.from c.pass-access.new.spot c.args.registers.now
    c.pass-access.new.registers c.loop.invariant.0 (items_at c.loop.spot.address c.pass-access.result) (c.loop.counter + 1) front.0 (g.K.Taker.took c.args.items.now c.give.new.items) on front.1
    (g.met.K.Taker.took_both c.args.items.now c.loop.items c.give.new.items c.loop.invariant.0 (take front.0 (items_at c.loop.spot.address c.pass-access.result)) c.loop.invariant.2 front.2)
    in
    OnErr-always _ _ broken

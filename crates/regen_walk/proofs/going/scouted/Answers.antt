use Rattle.std.proofs.Common.{◌≤◌, ◌++◌, ℕ, [], length, Some, sym, ap, subst, ◌∙◌, arith}
use Rattle.schema_form.specs.SchemaParts.{SchemaParts}
use Rattle.schema_form.specs.Valid.{IsSchema}
use Rattle.regen_walk.specs.Inner.Going.{items_at}
use Rattle.regen_walk.proofs.Towards.{begins, goes_further, arrives_early, arrives_last}
use Rattle.regen_walk.proofs.WordsMet.{place_within}
use Rattle.regen_walk.proofs.going.scouted.Goals as goal

pub loop-init : goal.loop-init
loop-init c =
    ([], begins c.args.schema.now (subst IsSchema c.schema.view_is c.schema.invariant.parts) c.args.paths.now c.requires.ways c.args.from c.args.goal c.args.registers.now c.requires.from c.requires.leads.0 c.requires.leads.1)

pub way_towards-requires-clause-here : goal.way_towards-requires-clause-here
way_towards-requires-clause-here c =
    let within = place_within c.args.schema.now (subst IsSchema c.schema.view_is c.schema.invariant.parts) c.loop.spot c.loop.invariant.1.stands in
    omega (arith, within, c.requires.ways.long)

pub way_towards-requires-clause-goal : goal.way_towards-requires-clause-goal
way_towards-requires-clause-goal c =
    let within = place_within c.args.schema.now (subst IsSchema c.schema.view_is c.schema.invariant.parts) c.args.goal c.requires.goal in
    omega (arith, within, c.requires.ways.long)

pub loop-preserved : goal.loop-preserved
loop-preserved c =
    let led = c.in-Some.ensures.some in (
      c.loop.invariant.0 ++ items_at c.loop.spot.address c.pass.result,
      goes_further c.args.schema.now (subst IsSchema c.schema.view_is c.schema.invariant.parts) c.args.paths.now c.requires.ways c.args.from c.args.goal c.args.registers.now c.loop.spot c.pass.new.spot c.loop.registers c.pass.new.registers
          c.loop.invariant.0 c.loop.counter c.in-Some.onward.taken c.pass.result c.loop.invariant.1 led.arc led.rest led.kind led.walks (led.way ∙ ap (λ (place : ℕ). Some place) (sym c.pass.ensures.place)) c.pass.ensures.moves,
    )

pub returns-after-loop : goal.returns-after-loop
returns-after-loop c = λ walk walks.
    let count = ap length (c.as_slice-end.ensures ∙ ap (λ (parts : SchemaParts). parts.words) c.schema.view_is) in
    let enough : length c.args.schema.now.words ≤ c.loop.counter = omega (arith, count, c.loop-test.false) in (
      c.loop.invariant.0,
      arrives_last c.args.schema.now (subst IsSchema c.schema.view_is c.schema.invariant.parts) c.args.paths.now c.requires.ways c.args.from c.args.goal c.args.registers.now c.loop.spot c.loop.registers c.loop.invariant.0
          c.loop.counter c.requires.goal c.loop.invariant.1 enough walk walks,
    )

pub returns-in_default : goal.returns-in_default
returns-in_default c = λ walk walks. (
  c.loop.invariant.0,
  arrives_early c.args.schema.now (subst IsSchema c.schema.view_is c.schema.invariant.parts) c.args.paths.now c.requires.ways c.args.from c.args.goal c.args.registers.now c.loop.spot c.loop.registers c.loop.invariant.0
      c.loop.counter c.requires.goal c.loop.invariant.1 c.in_default.ensures.none walk walks,
)

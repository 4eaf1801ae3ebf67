use Rattle.std.proofs.Common.{◌∙◌, arith}
use Rattle.std.proofs.lemmas.Bool.{iff_false}
use Rattle.schema_form.specs.FreeEdges.{HaveNoCycle}
use Rattle.schema_form.proofs.Halved.{no_edge, first_found}
use Rattle.schema_form.proofs.Halving.{some_edge}
use Rattle.schema_form.proofs.cycles.first_to_close.Goals as goal

pub returns-then-first_have_none : goal.returns-then-first_have_none
returns-then-first_have_none c = c.first_have_none.ensures.forest.0 c.if-first_have_none.true

pub loop-with-init : goal.loop-with-init
loop-with-init c =
    let edges = c.args.edges.now in
    let cycle : HaveNoCycle edges → ⊥ = iff_false c.first_have_none.ensures.forest c.if-first_have_none.false in
    record {
      apart = some_edge edges cycle;
      within = omega arith;
      room = c.first_have_none.ensures.room;
      forest = no_edge edges;
      cycle = cycle;
    }

pub loop-with-preserved-then-first_have_none-2 : goal.loop-with-preserved-then-first_have_none-2
loop-with-preserved-then-first_have_none-2 c = record {
  apart = omega (arith, c.loop-with.invariant.apart, c.loop-with-test.true);
  within = c.loop-with.invariant.within;
  room = c.first_have_none-in-loop-with.ensures.room ∙ c.loop-with.invariant.room;
  forest = c.first_have_none-in-loop-with.ensures.forest.0 c.if-first_have_none-2.true;
  cycle = c.loop-with.invariant.cycle;
}

pub returns : goal.returns
returns c =
    let known = c.loop-with.invariant in
    first_found c.args.edges.now c.loop-with.without c.loop-with.with known.apart (omega (arith, c.loop-with-test.false)) known.forest known.cycle

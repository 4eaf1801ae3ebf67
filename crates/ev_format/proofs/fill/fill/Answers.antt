use Rattle.std.proofs.Common.{arith, rules, ◌∙◌}
use Rattle.ev_format.proofs.Filled.{Consumes-filled}
use Rattle.ev_format.proofs.fill.fill.Goals as goal

pub loop-got-preserved : goal.loop-got-preserved
loop-got-preserved g c = record {
  within = search rules;
  taken =
      Consumes-filled _ _ _ _ _ _ _ _ c.loop-got.invariant.within (omega (arith, c.in_ok-more.ensures.within)) c.loop-got.invariant.taken c.in_ok-more.ensures.content.0;
  same = c.in_ok-more.ensures.cause.same ∙ c.loop-got.invariant.same;
  rest = g.met.S.Source.rest_joins _ _ _ c.loop-got.invariant.rest c.read.ensures.rest;
}

-- The table is that of the arcs, and what is kept of it is of a forest.
use Rattle.std.proofs.Common.{sym, ap, ◌∙◌, subst, arith}
use Rattle.regen_path.specs.Arcs.{AreWays}
use Rattle.regen_path.specs.PathsView.{AreSpots, ways_in}
use Rattle.regen_path.proofs.Spotted.{lead_within, forest_of}
use Rattle.regen_path.proofs.paths.Paths.build.Goals as goal

pub spots_in-requires-clause-fit : goal.spots_in-requires-clause-fit
spots_in-requires-clause-fit c = omega (arith, c.in_ok-ways.ensures.long)

pub spots_in-requires-clause-within : goal.spots_in-requires-clause-within
spots_in-requires-clause-within c = lead_within c.args.arcs.now c.args.count c.in_ok-ways.ways.items c.requires.ends c.in_ok-ways.ensures

pub spots_in-requires-clause-forest : goal.spots_in-requires-clause-forest
spots_in-requires-clause-forest c = forest_of c.args.arcs.now c.args.count c.in_ok-ways.ways.items c.requires.forest c.in_ok-ways.ensures

pub invariant_of-result : goal.invariant_of-result
invariant_of-result c = subst AreSpots (sym c.from_vec.ensures) c.in_ok-spots.ensures.spots

pub returns : goal.returns
returns c = subst (AreWays c.args.arcs.now c.args.count) (sym (ap ways_in c.from_vec.ensures ∙ c.in_ok-spots.ensures.ways)) c.in_ok-ways.ensures

-- What was found of the spots holds of the table that callers see.
use Rattle.std.proofs.Common.{length, sym, ap, subst, arith}
use Rattle.regen_path.specs.PathsView.{AreSpots}
use Rattle.regen_path.proofs.Hopping.{found_in, forest_in, spots_count, finds_here, finds_no_way, finds_first, finds_walk, is_only}
use Rattle.regen_path.proofs.paths.Paths.next.Goals as goal

pub hop_in-requires-clause-spots : goal.hop_in-requires-clause-spots
hop_in-requires-clause-spots c = subst AreSpots (sym c.as_slice.ensures) c.self.invariant

pub hop_in-requires-clause-here : goal.hop_in-requires-clause-here
hop_in-requires-clause-here c = omega (arith, c.requires.here, ap length c.as_slice.ensures, spots_count c.args.self.now c.self.inside.spots c.self.view_is)

pub hop_in-requires-clause-goal : goal.hop_in-requires-clause-goal
hop_in-requires-clause-goal c = omega (arith, c.requires.goal, ap length c.as_slice.ensures, spots_count c.args.self.now c.self.inside.spots c.self.view_is)

pub returns-clause-here : goal.returns-clause-here
returns-clause-here c =
    finds_here c.args.self.now (forest_in c.args.self.now c.self.inside.spots c.self.view_is c.self.invariant) c.args.here c.args.goal c.hop_in.result
    (found_in c.args.self.now c.self.inside.spots c.as_slice.result.now c.as_slice.ensures c.self.view_is c.args.here c.args.goal c.hop_in.result c.hop_in.ensures)

pub returns-clause-no_way : goal.returns-clause-no_way
returns-clause-no_way c =
    finds_no_way c.args.self.now (forest_in c.args.self.now c.self.inside.spots c.self.view_is c.self.invariant) c.args.here c.args.goal c.hop_in.result
    (found_in c.args.self.now c.self.inside.spots c.as_slice.result.now c.as_slice.ensures c.self.view_is c.args.here c.args.goal c.hop_in.result c.hop_in.ensures)

pub returns-clause-first : goal.returns-clause-first
returns-clause-first c = λ walk walks.
    let forest = forest_in c.args.self.now c.self.inside.spots c.self.view_is c.self.invariant in (
      is_only c.args.self.now forest c.args.here c.args.goal walk walks,
      finds_first c.args.self.now forest c.args.here c.args.goal c.hop_in.result
          (found_in c.args.self.now c.self.inside.spots c.as_slice.result.now c.as_slice.ensures c.self.view_is c.args.here c.args.goal c.hop_in.result c.hop_in.ensures) walk walks,
    )

pub returns-clause-walk : goal.returns-clause-walk
returns-clause-walk c =
    finds_walk c.args.self.now (forest_in c.args.self.now c.self.inside.spots c.self.view_is c.self.invariant) c.args.here c.args.goal c.hop_in.result
    (found_in c.args.self.now c.self.inside.spots c.as_slice.result.now c.as_slice.ensures c.self.view_is c.args.here c.args.goal c.hop_in.result c.hop_in.ensures)

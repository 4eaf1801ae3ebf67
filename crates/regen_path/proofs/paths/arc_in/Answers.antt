-- The arc of the way that was found, and the rest of the walk.
use Rattle.std.proofs.Common.{inl, inr, get_or, subst, ◌∙◌}
use Rattle.std.proofs.lemmas.Option.{slice_get-get_or}
use Rattle.regen_path.specs.PathsView.{ways_in}
use Rattle.regen_path.specs.Inner.Finds.{Finds}
use Rattle.regen_path.proofs.Hopping.{no_spot, way_at, first_fall, first_taken, finds_here, finds_no_way}
use Rattle.regen_path.proofs.paths.arc_in.Goals as goal

pub returns-in-Fall-clause-some : goal.returns-in-Fall-clause-some
returns-in-Fall-clause-some c =
    let spots = c.args.spots.now in
    first_fall (ways_in spots) c.requires.spots.forest c.args.here c.args.goal c.unwrap.result
    (way_at spots 0 c.args.here (get_or spots c.args.here no_spot) (slice_get-get_or spots c.args.here no_spot c.requires.here) ∙ c.unwrap.ensures)
    (subst (Finds (ways_in spots) c.args.here c.args.goal) c.in-Fall.is c.hop_in.ensures)

pub returns-in-Taken-clause-some : goal.returns-in-Taken-clause-some
returns-in-Taken-clause-some c =
    let spots = c.args.spots.now in
    first_taken (ways_in spots) c.requires.spots.forest c.args.here c.args.goal c.unwrap-in-Taken.result
    (way_at spots 1 c.args.here (get_or spots c.args.here no_spot) (slice_get-get_or spots c.args.here no_spot c.requires.here) ∙ c.unwrap-in-Taken.ensures)
    (subst (Finds (ways_in spots) c.args.here c.args.goal) c.in-Taken.is c.hop_in.ensures)

pub returns-in-NoWay-clause-none : goal.returns-in-NoWay-clause-none
returns-in-NoWay-clause-none c = λ walk walks.
    let table = ways_in c.args.spots.now in elim c.in-NoWay.is [
      | inl no_way ↦ absurd ((finds_no_way table c.requires.spots.forest c.args.here c.args.goal c.hop_in.result c.hop_in.ensures).0 no_way walk walks)
      | inr here ↦ (finds_here table c.requires.spots.forest c.args.here c.args.goal c.hop_in.result c.hop_in.ensures).0 here
    ]

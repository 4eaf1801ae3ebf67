-- What was found of the spots holds of the table that callers see.
use Rattle.std.proofs.Common.{◌≡◌, List, ap, subst, ◌∙◌}
use Rattle.std.specs.Prelude.{IfNone}
use Rattle.regen_path.specs.declared.arcs.Arc.{Arc}
use Rattle.regen_path.specs.declared.arcs.Ways.{Ways}
use Rattle.regen_path.specs.Arcs.{HasArc}
use Rattle.regen_path.specs.PathsView.{ways_in}
use Rattle.regen_path.specs.Walks.{IsWalk}
use Rattle.regen_path.proofs.paths.Paths.first.Goals as goal

pub returns-clause-none : goal.returns-clause-none
returns-clause-none c =
    subst (λ (table : List Ways). IfNone c.arc_in.result ((walk : List Arc) → IsWalk (HasArc table) c.args.here c.args.goal walk → c.args.here ≡ c.args.goal)) (ap ways_in c.as_slice.ensures ∙ c.self.view_is) c.arc_in.ensures.none

use Rattle.std.proofs.Common.{◌≡◌, false, length, take, replicate, ap, ◌∙◌}
use Rattle.std.proofs.lemmas.List.{take-replicate}
use Rattle.schema_form.specs.Inner.Inners.{IsInner}
use Rattle.schema_form.proofs.Halved.{forest_from_cuts, cuts_from_forest, none_leaves, all_take}
use Rattle.schema_form.proofs.cycles.first_have_none.Goals as goal

pub returns-clause-forest : goal.returns-clause-forest
returns-clause-forest c =
    let edges = c.args.edges.now in
    let count = c.args.count in
    let none : take count c.args.marks.now ≡ replicate count false = ap (take count) c.requires.marks ∙ take-replicate count (length edges) false c.requires.count in
    let inner = all_take (IsInner c.args.row.now) count edges c.requires.inner in (
      λ yes. forest_from_cuts edges count (take count c.args.marks.now) none (c.check_edges.ensures.forest.0 yes),
      λ forest. c.check_edges.ensures.forest.1 (cuts_from_forest edges count (take count c.args.marks.now) none (none_leaves c.args.row.now (take count edges) inner) forest),
    )

use Rattle.std.proofs.Common.{◌≡◌, ◌∙◌, false, rules}
use Rattle.std.specs.Prelude.{replicate}
use Rattle.flow_graph.proofs.Marked.{no_marks}
use Rattle.flow_graph.proofs.leaders.mark_leaders.Goals as goal

pub mark_starts_of_blocks-requires-clause-none : goal.mark_starts_of_blocks-requires-clause-none
mark_starts_of_blocks-requires-clause-none c =
    let h = c.in_ok-marks.ensures.items_if_clones_equal in let items : c.in_ok-marks.marks.items ≡ replicate c.count_in.result false = search rules in c.deref_mut.ensures.value ∙ (items ∙ no_marks c.args.ranges.now c.count_in.result c.count_in.ensures)

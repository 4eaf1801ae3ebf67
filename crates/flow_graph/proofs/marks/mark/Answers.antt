-- The mark of a code word is set; an address of no code word changes nothing.
use Rattle.std.proofs.Common.{true, set, sym, ap, ◌∙◌}
use Rattle.flow_graph.proofs.Marked.{marked_here, marked_nowhere}
use Rattle.flow_graph.proofs.marks.mark.Goals as goal

pub returns-in-Some : goal.returns-in-Some
returns-in-Some c = λ addresses was. ap (λ marks. set marks c.in-Some.place true) was ∙ marked_here c.args.ranges.now addresses c.args.address c.in-Some.place c.requires.order (sym c.in-Some.ensures.place)

pub returns-in_default : goal.returns-in_default
returns-in_default c = λ addresses was. was ∙ marked_nowhere c.args.ranges.now addresses c.args.address c.requires.order (sym c.in_default.ensures.place)

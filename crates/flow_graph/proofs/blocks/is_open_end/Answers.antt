use Rattle.std.proofs.Common.{false, get_or, sym, ap, ◌∙◌, arith}
use Rattle.rv_code.specs.Code.{extents_of}
use Rattle.rv_code.specs.Places.{place_of}
use Rattle.flow_graph.proofs.Ends.{at_the_end, nothing_behind, word_behind}
use Rattle.flow_graph.proofs.blocks.is_open_end.Goals as goal

pub returns-in_default : goal.returns-in_default
returns-in_default c = λ starts marked. at_the_end c.args.ranges.now starts c.args.address c.requires.ends (omega (arith, c.in_default.ensures))

pub returns-in-Some-place_in : goal.returns-in-Some-place_in
returns-in-Some-place_in c = λ starts marked.
    ap (λ marks. get_or marks c.in-Some-place_in.place false) marked
    ∙ word_behind c.args.ranges.now starts c.in-Some-place_in.place c.args.address c.requires.order
    (ap (place_of (extents_of c.args.ranges.now)) (sym c.in-Some.ensures.1) ∙ sym c.in-Some-place_in.ensures.place)

pub returns-in-None : goal.returns-in-None
returns-in-None c = λ starts marked. nothing_behind c.args.ranges.now starts c.args.address c.requires.order
    (ap (place_of (extents_of c.args.ranges.now)) (sym c.in-Some.ensures.1) ∙ sym c.in-None.ensures.place)

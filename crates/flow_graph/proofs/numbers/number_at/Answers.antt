use Rattle.std.proofs.Common.{sym, ◌∙◌}
use Rattle.flow_graph.proofs.Counted.{cell_of, no_cell}
use Rattle.flow_graph.proofs.numbers.number_at.Goals as goal

pub returns-in_err-place : goal.returns-in_err-place
returns-in_err-place c = λ starts numbered.
    c.from_residual.ensures ∙ no_cell c.args.ranges.now starts c.args.address c.requires.order (sym c.place_in.ensures.place ∙ c.in_err-place.was)

pub returns : goal.returns
returns c = λ starts numbered.
    cell_of c.args.ranges.now starts c.args.numbers.now c.in_ok-place.place c.args.address (sym c.in_ok-place.ensures.place) c.requires.cells numbered

use Rattle.std.proofs.Common.{length, ap, ◌∙◌}
use Rattle.std.proofs.lemmas.List.{length-map}
use Rattle.ae_ports.specs.Content.{Appends, AppendsFront}
use Rattle.flow_graph.specs.Edges.{edges_of}
use Rattle.flow_tree.specs.Weight.{weight_by_depth}
use Rattle.ae_top.proofs.Shown.{shown}
use Rattle.ae_top.proofs.from_graph.print_weighted.Goals as goal

pub witnesses-requires : goal.witnesses-requires
witnesses-requires g c = ap length c.requires.weights ∙ length-map (edges_of c.args.graph.now) (weight_by_depth c.args.graph.now)

pub print_graph-requires-clause-weights : goal.print_graph-requires-clause-weights
print_graph-requires-clause-weights g c = ap length c.requires.weights ∙ length-map (edges_of c.args.graph.now) (weight_by_depth c.args.graph.now)

pub returns-in-Ok-print_graph-clause-prints : goal.returns-in-Ok-print_graph-clause-prints
returns-in-Ok-print_graph-clause-prints g c =
    shown c.args.graph.now c.args.weights.now c.in-Ok.forest.witness c.requires.weights c.in-Ok.ensures.marks c.in-Ok.ensures.cuts c.in-Ok.ensures.least
    (Appends (g.O.Sink.told c.args.out.now) (g.O.Sink.told c.print_graph.new.sink)) c.in-Ok-print_graph.ensures.all

pub returns-in-Err-Failed-clause-prints : goal.returns-in-Err-Failed-clause-prints
returns-in-Err-Failed-clause-prints g c =
    shown c.args.graph.now c.args.weights.now c.in-Ok.forest.witness c.requires.weights c.in-Ok.ensures.marks c.in-Ok.ensures.cuts c.in-Ok.ensures.least
    (AppendsFront (g.O.Sink.told c.args.out.now) (g.O.Sink.told c.print_graph.new.sink)) c.in-Err-Failed.ensures.front

pub returns-clause-prints : goal.returns-clause-prints
returns-clause-prints g c = (
  tt,
  shown c.args.graph.now c.args.weights.now c.in-Ok.forest.witness c.requires.weights c.in-Ok.ensures.marks c.in-Ok.ensures.cuts c.in-Ok.ensures.least
      (AppendsFront (g.O.Sink.told c.args.out.now) (g.O.Sink.told c.print_graph.new.sink)) c.in-Err-NoMemory.ensures.front,
)

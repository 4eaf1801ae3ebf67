use Rattle.std.proofs.Common.{◌++◌, refl}
use Rattle.ae_print.specs.GraphText.{routine_lines, block_lines, edge_lines}
use Rattle.ae_nums.proofs.LawsOfWriters.{Puts-front}
use Rattle.ae_print.proofs.Short.{short_behind}
use Rattle.ae_print.proofs.graph.write_graph.Goals as goal

pub returns-in-Ok : goal.returns-in-Ok
returns-in-Ok g c = λ path_of are.
    let graph = c.args.graph.now in
    let edges = edge_lines graph c.args.weights.now c.args.forest.now.witness path_of in
    short_behind g.K.Sink.told g.K.Sink.faults g.K.Sink.same_rest g.met.K.Sink.rest_joins _ _ _ (routine_lines graph.routines ++ block_lines graph) edges _ c.in-Ok.ensures (c.write_edges.ensures path_of are)

pub returns-in-Err : goal.returns-in-Err
returns-in-Err g c = λ path_of are.
    let graph = c.args.graph.now in
    let edges = edge_lines graph c.args.weights.now c.args.forest.now.witness path_of in (
      c.in-Err.ensures.broken,
      λ result. Puts-front _ _ (routine_lines graph.routines ++ block_lines graph) edges _ _ result c.in-Err.ensures.broken c.in-Err.ensures refl,
    )

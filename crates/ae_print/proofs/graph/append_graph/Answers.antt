use Rattle.std.proofs.Common.{rules}
use Rattle.flow_graph.specs.Edges.{edges_of}
use Rattle.ae_print.specs.GraphText.{graph_text}
use Rattle.ae_print.proofs.EdgeText.{all_paths}
use Rattle.ae_print.proofs.Short.{front_written, front_finished, all_finished, failed_risen, on_error, rest_at}
use Rattle.ae_print.proofs.SomeFinished.{in_success, same_count, later_count, risen_count}
use Rattle.ae_print.proofs.graph.append_graph.Goals as goal

pub returns-in-Ok-clause-all : goal.returns-in-Ok-clause-all
returns-in-Ok-clause-all g c = λ path_of are.
    let text = graph_text c.args.graph.now c.args.weights.now c.args.forest.now.witness path_of in
    let puts = c.write_graph-written.ensures path_of are in
    all_finished g.K.Sink.told g.K.Sink.faults g.K.Sink.same_rest _ c.finish.new.self.sink.now _ _ text _ _ c.write_graph-written.result (search rules) c.new-lines.ensures.begun puts
    (λ whole is. c.in-Ok.ensures.finished _ whole is)

pub returns-in-Ok-clause-front : goal.returns-in-Ok-clause-front
returns-in-Ok-clause-front g c = λ path_of are.
    let text = graph_text c.args.graph.now c.args.weights.now c.args.forest.now.witness path_of in
    let puts = c.write_graph-written.ensures path_of are in
    let written = front_written g.K.Sink.told g.K.Sink.faults g.K.Sink.same_rest _ _ _ text c.write_graph-written.result c.new-lines.ensures.begun puts in
    on_error _ c.write_graph-written.result
    (front_finished g.K.Sink.told g.K.Sink.faults _ c.finish.new.self.sink.now _ text _ _ (search rules) written (c.in-Ok.ensures.finished _ written.front written.written))

pub returns-in-Ok-clause-failed : goal.returns-in-Ok-clause-failed
returns-in-Ok-clause-failed g c =
    let paths = all_paths (edges_of c.args.graph.now) c.args.forest.now.witness c.requires.grown in
    let text = graph_text c.args.graph.now c.args.weights.now c.args.forest.now.witness paths.0 in
    let puts = c.write_graph-written.ensures paths.0 paths.1 in
    failed_risen g.K.Sink.told g.K.Sink.faults g.K.Sink.same_rest _ _ _ c.finish.new.self text _ c.write_graph-written.result (search rules) c.new-lines.ensures.begun puts c.in-Ok.ensures.written

pub returns-in-Ok-clause-served : goal.returns-in-Ok-clause-served
returns-in-Ok-clause-served g c =
    let paths = all_paths (edges_of c.args.graph.now) c.args.forest.now.witness c.requires.grown in
    let text = graph_text c.args.graph.now c.args.weights.now c.args.forest.now.witness paths.0 in
    let puts = c.write_graph-written.ensures paths.0 paths.1 in
    let written = front_written g.K.Sink.told g.K.Sink.faults g.K.Sink.same_rest _ _ _ text c.write_graph-written.result c.new-lines.ensures.begun puts in
    in_success _ c.write_graph-written.result (same_count _ (g.K.Sink.faults c.finish.new.self.sink.now) _ _ (search rules) (c.in-Ok.ensures.finished _ written.front written.written).cause)

pub returns-in-Ok-clause-unfailed : goal.returns-in-Ok-clause-unfailed
returns-in-Ok-clause-unfailed g c = λ _.
    let paths = all_paths (edges_of c.args.graph.now) c.args.forest.now.witness c.requires.grown in
    let text = graph_text c.args.graph.now c.args.weights.now c.args.forest.now.witness paths.0 in
    let puts = c.write_graph-written.ensures paths.0 paths.1 in
    let written = front_written g.K.Sink.told g.K.Sink.faults g.K.Sink.same_rest _ _ _ text c.write_graph-written.result c.new-lines.ensures.begun puts in
    same_count _ (g.K.Sink.faults c.finish.new.self.sink.now) _ _ (search rules) (c.in-Ok.ensures.finished _ written.front written.written).cause

pub returns-in-Ok-clause-later : goal.returns-in-Ok-clause-later
returns-in-Ok-clause-later g c =
    let paths = all_paths (edges_of c.args.graph.now) c.args.forest.now.witness c.requires.grown in
    let text = graph_text c.args.graph.now c.args.weights.now c.args.forest.now.witness paths.0 in
    let puts = c.write_graph-written.ensures paths.0 paths.1 in
    let written = front_written g.K.Sink.told g.K.Sink.faults g.K.Sink.same_rest _ _ _ text c.write_graph-written.result c.new-lines.ensures.begun puts in
    later_count _ (g.K.Sink.faults c.finish.new.self.sink.now) _ _ (search rules) (c.in-Ok.ensures.finished _ written.front written.written).cause

pub returns-in-Err-clause-front : goal.returns-in-Err-clause-front
returns-in-Err-clause-front g c = λ path_of are.
    let text = graph_text c.args.graph.now c.args.weights.now c.args.forest.now.witness path_of in
    let puts = c.write_graph-written.ensures path_of are in
    let written = front_written g.K.Sink.told g.K.Sink.faults g.K.Sink.same_rest _ _ _ text c.write_graph-written.result c.new-lines.ensures.begun puts in
    front_finished g.K.Sink.told g.K.Sink.faults _ c.finish.new.self.sink.now _ text _ _ (search rules) written (c.in-Err.ensures.finished _ written.front written.written)

pub returns-in-Err-clause-failed : goal.returns-in-Err-clause-failed
returns-in-Err-clause-failed g c = λ _.
    let paths = all_paths (edges_of c.args.graph.now) c.args.forest.now.witness c.requires.grown in
    let text = graph_text c.args.graph.now c.args.weights.now c.args.forest.now.witness paths.0 in
    let puts = c.write_graph-written.ensures paths.0 paths.1 in
    let written = front_written g.K.Sink.told g.K.Sink.faults g.K.Sink.same_rest _ _ _ text c.write_graph-written.result c.new-lines.ensures.begun puts in
    risen_count _ (g.K.Sink.faults c.finish.new.self.sink.now) _ _ (search rules) (c.in-Err.ensures.finished _ written.front written.written).cause

pub returns-in-Err-clause-later : goal.returns-in-Err-clause-later
returns-in-Err-clause-later g c =
    let paths = all_paths (edges_of c.args.graph.now) c.args.forest.now.witness c.requires.grown in
    let text = graph_text c.args.graph.now c.args.weights.now c.args.forest.now.witness paths.0 in
    let puts = c.write_graph-written.ensures paths.0 paths.1 in
    let written = front_written g.K.Sink.told g.K.Sink.faults g.K.Sink.same_rest _ _ _ text c.write_graph-written.result c.new-lines.ensures.begun puts in
    later_count _ (g.K.Sink.faults c.finish.new.self.sink.now) _ _ (search rules) (c.in-Err.ensures.finished _ written.front written.written).cause

pub returns-in-Ok-clause-rest : goal.returns-in-Ok-clause-rest
returns-in-Ok-clause-rest g c =
    let paths = all_paths (edges_of c.args.graph.now) c.args.forest.now.witness c.requires.grown in
    let text = graph_text c.args.graph.now c.args.weights.now c.args.forest.now.witness paths.0 in
    let puts = c.write_graph-written.ensures paths.0 paths.1 in
    rest_at g.K.Sink.told g.K.Sink.faults g.K.Sink.same_rest g.met.K.Sink.rest_joins c.args.sink.now c.finish.new.self.sink.now _ _ _ text c.write_graph-written.result
    c.new-lines.ensures.sink (search rules) puts c.in-Ok.ensures.rest.rest

pub returns-in-Err-clause-rest : goal.returns-in-Err-clause-rest
returns-in-Err-clause-rest g c =
    let paths = all_paths (edges_of c.args.graph.now) c.args.forest.now.witness c.requires.grown in
    let text = graph_text c.args.graph.now c.args.weights.now c.args.forest.now.witness paths.0 in
    let puts = c.write_graph-written.ensures paths.0 paths.1 in
    rest_at g.K.Sink.told g.K.Sink.faults g.K.Sink.same_rest g.met.K.Sink.rest_joins c.args.sink.now c.finish.new.self.sink.now _ _ _ text c.write_graph-written.result
    c.new-lines.ensures.sink (search rules) puts c.in-Err.ensures.rest.rest

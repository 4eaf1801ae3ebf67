use Rattle.ae_print.proofs.GraphTexts.{by_weights, some_all, some_front, no_front}
use Rattle.ae_print.proofs.graph.print_graph.Goals as goal

pub append_graph-requires-clause-grown : goal.append_graph-requires-clause-grown
append_graph-requires-clause-grown g c = by_weights c.args.graph.now c.args.weights.now c.args.forest.now.witness c.requires.weights c.requires.witnesses

pub returns-clause-all : goal.returns-clause-all
returns-clause-all g c =
    let grown = by_weights c.args.graph.now c.args.weights.now c.args.forest.now.witness c.requires.weights c.requires.witnesses in
    some_all c.args.graph.now c.args.weights.now c.args.forest.now.witness grown _ _ c.as_slice.result.now c.append_graph.result c.as_slice.ensures c.append_graph.ensures.all

pub returns-clause-front : goal.returns-clause-front
returns-clause-front g c =
    let grown = by_weights c.args.graph.now c.args.weights.now c.args.forest.now.witness c.requires.weights c.requires.witnesses in
    some_front c.args.graph.now c.args.weights.now c.args.forest.now.witness grown _ _ c.as_slice.result.now c.append_graph.result c.as_slice.ensures c.append_graph.ensures.front

pub returns-in-Err-clause-front : goal.returns-in-Err-clause-front
returns-in-Err-clause-front g c =
    let grown = by_weights c.args.graph.now c.args.weights.now c.args.forest.now.witness c.requires.weights c.requires.witnesses in
    no_front c.args.graph.now c.args.weights.now c.args.forest.now.witness grown _

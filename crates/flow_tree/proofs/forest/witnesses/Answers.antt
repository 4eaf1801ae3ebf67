use Rattle.std.proofs.Common.{List, length, sym, ap, ◌∙◌, subst, arith}
use Rattle.flow_graph.specs.declared.block.Block.{Block}
use Rattle.flow_graph.specs.declared.edge.Edge.{Edge}
use Rattle.flow_graph.specs.Edges.{edges_of}
use Rattle.flow_tree.specs.WitnessEdges.{AreWitnesses, CutsCycles, HaveLeastWeight}
use Rattle.flow_tree.specs.Inner.Growing.{IsSpanning}
use Rattle.flow_tree.proofs.Least.{IsSpanning-AreWitnesses, IsSpanning-CutsCycles, IsSpanning-HaveLeastWeight}
use Rattle.flow_tree.proofs.forest.witnesses.Goals as goal

pub marks_off-requires-clause-few : goal.marks_off-requires-clause-few
marks_off-requires-clause-few c = omega (arith, c.edges_in-edges.ensures.few)

pub marks_off-requires-clause-blocks : goal.marks_off-requires-clause-blocks
marks_off-requires-clause-blocks c = λ edge one other joined.
    let within = c.edges_in-edges.ensures.within edge one other joined in omega (arith, within, ap (length {A = Block}) c.blocks-2.ensures)

pub marks_off-requires-clause-weights : goal.marks_off-requires-clause-weights
marks_off-requires-clause-weights c = c.requires ∙ ap (length {A = Edge}) (sym c.edges_in-edges.ensures.edges)

pub returns-clause-marks : goal.returns-clause-marks
returns-clause-marks c =
    let spanning = subst (λ (edges : List Edge). IsSpanning edges c.args.weights.now c.in_ok-witness.witness.items) c.edges_in-edges.ensures.edges c.in_ok-witness.ensures in
    subst (AreWitnesses (edges_of c.args.graph.now) c.args.weights.now) (sym c.from_vec.ensures)
    (IsSpanning-AreWitnesses (edges_of c.args.graph.now) c.args.weights.now c.in_ok-witness.witness.items spanning)

pub returns-clause-cuts : goal.returns-clause-cuts
returns-clause-cuts c =
    let spanning = subst (λ (edges : List Edge). IsSpanning edges c.args.weights.now c.in_ok-witness.witness.items) c.edges_in-edges.ensures.edges c.in_ok-witness.ensures in
    subst (CutsCycles (edges_of c.args.graph.now)) (sym c.from_vec.ensures)
    (IsSpanning-CutsCycles (edges_of c.args.graph.now) c.args.weights.now c.in_ok-witness.witness.items spanning)

pub returns-clause-least : goal.returns-clause-least
returns-clause-least c =
    let spanning = subst (λ (edges : List Edge). IsSpanning edges c.args.weights.now c.in_ok-witness.witness.items) c.edges_in-edges.ensures.edges c.in_ok-witness.ensures in
    subst (HaveLeastWeight (edges_of c.args.graph.now) c.args.weights.now) (sym c.from_vec.ensures)
    (IsSpanning-HaveLeastWeight (edges_of c.args.graph.now) c.args.weights.now c.in_ok-witness.witness.items spanning c.requires)

use Rattle.std.proofs.Common.{◌≡◌, ◌<◌, ℕ, Bool, false, List, length, get_or, Some, sym, ap, ◌∙◌, subst, arith}
use Rattle.std.proofs.lemmas.Option.{slice_get-get_or}
use Rattle.std.proofs.lemmas.Result.{IfOk-weaker}
use Rattle.std.specs.declared.alloc.Global.{Global}
use Rattle.std.specs.declared.vec.Vec.{Vec}
use Rattle.flow_graph.specs.declared.block.Block.{Block}
use Rattle.flow_graph.specs.declared.edge.Edge.{Edge}
use Rattle.flow_graph.specs.Edges.{edges_of}
use Rattle.flow_tree.specs.WitnessEdges.{LeavesCode, joins_forth, AreGrown, CutsCycles, IsCertificate, IsTreePath, IsMarked, IsUnmarked}
use Rattle.flow_tree.proofs.Certified.{grown_cuts, grown_joins, certified, none_needed}
use Rattle.flow_tree.proofs.LawsOfJoins.{leaving_joins_none}
use Rattle.flow_tree.proofs.Least.{both_marks}
use Rattle.flow_tree.proofs.Sides.{no_edge, edge_leads, leaves_code}
use Rattle.flow_tree.proofs.certifying.certificate.Goals as goal
use Rattle.flow_tree.proofs.certifying.certificate.Goals.{in_default-via-in-Some+else-is_witness, in_default-via-in_default}

pub tree_path-requires-clause-blocks : goal.tree_path-requires-clause-blocks
tree_path-requires-clause-blocks c = λ edge one other joined.
    let within = c.edges_in-edges.ensures.within edge one other joined in omega (arith, within, ap (length {A = Block}) c.blocks-in-Some.ensures)

pub tree_path-requires-clause-cuts : goal.tree_path-requires-clause-cuts
tree_path-requires-clause-cuts c =
    let grown = subst (λ (edges : List Edge). AreGrown edges c.args.forest.now.witness) (sym c.edges_in-edges.ensures.edges) c.requires.grown in
    subst (CutsCycles c.edges_in-edges.result.now) (sym c.as_slice-witness.ensures) (grown_cuts c.edges_in-edges.result.now c.args.forest.now.witness grown)

pub tree_path-requires-clause-joined : goal.tree_path-requires-clause-joined
tree_path-requires-clause-joined c =
    let grown = subst (λ (edges : List Edge). AreGrown edges c.args.forest.now.witness) (sym c.edges_in-edges.ensures.edges) c.requires.grown in
    let now = subst (AreGrown c.edges_in-edges.result.now) (sym c.as_slice-witness.ensures) grown in
    let within : c.args.edge < length c.edges_in-edges.result.now = omega (arith, c.requires.edge, ap (length {A = Edge}) c.edges_in-edges.ensures.edges) in
    let leads = edge_leads c.edges_in-edges.result.now c.args.edge c.in-Some.to within c.in-Some.is in
    grown_joins c.edges_in-edges.result.now c.as_slice-witness.result.now now c.args.edge (get_or c.edges_in-edges.result.now c.args.edge no_edge).source c.in-Some.to (joins_forth leads)

pub returns-in-Some : goal.returns-in-Some
returns-in-Some c =
    let within : c.args.edge < length c.edges_in-edges.result.now = omega (arith, c.requires.edge, ap (length {A = Edge}) c.edges_in-edges.ensures.edges) in
    let leads = edge_leads c.edges_in-edges.result.now c.args.edge c.in-Some.to within c.in-Some.is in
    let count : length c.args.forest.now.witness ≡ length (edges_of c.args.graph.now) = c.requires.grown.witnesses.count in
    let marked : IsMarked c.as_slice-witness.result.now c.args.edge =
    slice_get-get_or c.as_slice-witness.result.now c.args.edge false (omega (arith, c.requires.edge, count, ap (length {A = Bool}) c.as_slice-witness.ensures)) ∙ ap (λ (b : Bool). Some b) c.if-is_witness.true
    in
    IfOk-weaker c.tree_path.result
    (λ (path : Vec ℕ Global). IsTreePath c.edges_in-edges.result.now c.as_slice-witness.result.now path.items (get_or c.edges_in-edges.result.now c.args.edge no_edge).source c.in-Some.to)
    (λ (path : Vec ℕ Global). IsCertificate (edges_of c.args.graph.now) c.args.forest.now.witness c.args.edge path.items)
    (λ (path : Vec ℕ Global) tree.
    subst (λ (edges : List Edge). IsCertificate edges c.args.forest.now.witness c.args.edge path.items) c.edges_in-edges.ensures.edges
    (subst (λ (marks : List Bool). IsCertificate c.edges_in-edges.result.now marks c.args.edge path.items) c.as_slice-witness.ensures
    (certified c.edges_in-edges.result.now c.as_slice-witness.result.now c.args.edge (get_or c.edges_in-edges.result.now c.args.edge no_edge).source c.in-Some.to path.items marked leads tree)))
    c.tree_path.ensures

pub returns-in_default : goal.returns-in_default
returns-in_default c =
    let within : c.args.edge < length c.edges_in-edges.result.now = omega (arith, c.requires.edge, ap (length {A = Edge}) c.edges_in-edges.ensures.edges) in
    let count : length c.args.forest.now.witness ≡ length (edges_of c.args.graph.now) = c.requires.grown.witnesses.count in
    elim c.in_default.branch [
      | in_default-via-in-Some+else-is_witness w ↦
          let unmarked : IsUnmarked c.args.forest.now.witness c.args.edge =
          subst (λ (marks : List Bool). IsUnmarked marks c.args.edge) c.as_slice-witness.ensures
          (slice_get-get_or c.as_slice-witness.result.now c.args.edge false (omega (arith, c.requires.edge, count, ap (length {A = Bool}) c.as_slice-witness.ensures)) ∙ ap (λ (b : Bool). Some b) w.if-is_witness.false)
          in
          none_needed (edges_of c.args.graph.now) c.args.forest.now.witness c.args.edge c.new.result.items c.new.ensures.items
          (λ from to marked leads. both_marks c.args.forest.now.witness c.args.edge marked unmarked)
      | in_default-via-in_default w ↦
          let out = leaves_code c.edges_in-edges.result.now c.args.edge within w.in_default.is in
          none_needed (edges_of c.args.graph.now) c.args.forest.now.witness c.args.edge c.new.result.items c.new.ensures.items
          (λ from to marked leads. leaving_joins_none (edges_of c.args.graph.now) c.args.edge from to
          (subst (λ (edges : List Edge). LeavesCode edges c.args.edge) c.edges_in-edges.ensures.edges out) (joins_forth leads))
    ]

use Rattle.std.proofs.Common.{false, get_or}
use Rattle.flow_tree.specs.WitnessEdges.{joins_forth, joins_back}
use Rattle.flow_tree.proofs.Sides.{no_edge, edge_leads, same_bools, other_bools, first_bools, same_side, leads_to_target, leads_to_source}
use Rattle.flow_tree.proofs.growing.beyond.Goals as goal

pub bounds-grown-edge : goal.bounds-grown-edge
bounds-grown-edge c =
    let leads = edge_leads c.args.edges.now c.args.number c.in_ok-to.to c.requires.number c.in_ok-to.was in
    c.requires.blocks c.args.number (get_or c.args.edges.now c.args.number no_edge).source c.in_ok-to.to (joins_forth leads)

pub bounds-grown-to : goal.bounds-grown-to
bounds-grown-to c =
    let leads = edge_leads c.args.edges.now c.args.number c.in_ok-to.to c.requires.number c.in_ok-to.was in
    c.requires.blocks c.args.number c.in_ok-to.to (get_or c.args.edges.now c.args.number no_edge).source (joins_back leads)

pub bounds-grown-to-else-grown-edge : goal.bounds-grown-to-else-grown-edge
bounds-grown-to-else-grown-edge c =
    let leads = edge_leads c.args.edges.now c.args.number c.in_ok-to.to c.requires.number c.in_ok-to.was in
    c.requires.blocks c.args.number c.in_ok-to.to (get_or c.args.edges.now c.args.number no_edge).source (joins_back leads)

pub returns-then-grown-edge : goal.returns-then-grown-edge
returns-then-grown-edge c =
    let source = (get_or c.args.edges.now c.args.number no_edge).source in
    let leads = edge_leads c.args.edges.now c.args.number c.in_ok-to.to c.requires.number c.in_ok-to.was in
    same_side c.args.edges.now c.args.grown.now c.args.number source c.in_ok-to.to leads
    (c.requires.blocks c.args.number source c.in_ok-to.to (joins_forth leads)) (c.requires.blocks c.args.number c.in_ok-to.to source (joins_back leads))
    (same_bools (get_or c.args.grown.now source false) (get_or c.args.grown.now c.in_ok-to.to false) c.if-grown-edge.true)

pub returns-then-grown-to : goal.returns-then-grown-to
returns-then-grown-to c =
    let source = (get_or c.args.edges.now c.args.number no_edge).source in
    let leads = edge_leads c.args.edges.now c.args.number c.in_ok-to.to c.requires.number c.in_ok-to.was in
    leads_to_source c.args.edges.now c.args.grown.now c.args.number source c.in_ok-to.to leads
    (c.requires.blocks c.args.number source c.in_ok-to.to (joins_forth leads)) (c.requires.blocks c.args.number c.in_ok-to.to source (joins_back leads))
    (other_bools (get_or c.args.grown.now source false) (get_or c.args.grown.now c.in_ok-to.to false) c.if-grown-edge.false c.if-grown-to.true) c.if-grown-to.true

pub returns-else-grown-to : goal.returns-else-grown-to
returns-else-grown-to c =
    let source = (get_or c.args.edges.now c.args.number no_edge).source in
    let leads = edge_leads c.args.edges.now c.args.number c.in_ok-to.to c.requires.number c.in_ok-to.was in
    leads_to_target c.args.edges.now c.args.grown.now c.args.number source c.in_ok-to.to leads
    (c.requires.blocks c.args.number source c.in_ok-to.to (joins_forth leads)) (c.requires.blocks c.args.number c.in_ok-to.to source (joins_back leads))
    (first_bools (get_or c.args.grown.now source false) (get_or c.args.grown.now c.in_ok-to.to false) c.if-grown-edge.false c.if-grown-to.false) c.if-grown-to.false

use Rattle.std.proofs.Common.{List, ◌∙◌, subst, arith}
use Rattle.flow_graph.specs.declared.edge.Edge.{Edge}
use Rattle.schema_form.specs.FreeEdges.{HaveNoCycle, IsFirstToClose, NamesFirstToClose}
use Rattle.schema_form.proofs.Halving.{first_within, low_at, names_first, edges_inner, edges_few}
use Rattle.schema_form.proofs.cycles.first_cycle.Goals as goal

pub first_to_close-requires-clause-few : goal.first_to_close-requires-clause-few
first_to_close-requires-clause-few c =
    let few = edges_few c.args.stretches.now c.args.words.now c.deref.result.now (c.deref.ensures.value ∙ c.in_ok-edges.ensures) in
    omega (arith, few, c.requires.words.count, c.requires.stretches.few)

pub first_to_close-requires-clause-inner : goal.first_to_close-requires-clause-inner
first_to_close-requires-clause-inner c =
    edges_inner c.args.stretches.now c.args.words.now c.deref.result.now (c.deref.ensures.value ∙ c.in_ok-edges.ensures) c.in_ok-row.row c.requires.stretches c.requires.words c.in_ok-row.ensures

pub index-requires : goal.index-requires
index-requires c =
    let first = subst (λ (edges : List Edge). IsFirstToClose edges c.in-Some.number) c.deref.ensures.value c.in-Some.ensures in
    omega (arith, first_within c.in_ok-edges.edges.items c.in-Some.number first, c.in_ok-edges.edges.ok.0)

pub edge_name-requires : goal.edge_name-requires
edge_name-requires c =
    let edges = c.in_ok-edges.edges.items in
    let number = c.in-Some.number in
    let first = subst (λ (list : List Edge). IsFirstToClose list number) c.deref.ensures.value c.in-Some.ensures in
    low_at edges number c.index.result.now (first_within edges number first) c.index.ensures c.in_ok-row.row
    (edges_inner c.args.stretches.now c.args.words.now edges c.in_ok-edges.ensures c.in_ok-row.row c.requires.stretches c.requires.words c.in_ok-row.ensures)

pub returns-in-Some : goal.returns-in-Some
returns-in-Some c =
    let edges = c.in_ok-edges.edges.items in
    let number = c.in-Some.number in
    let first = subst (λ (list : List Edge). IsFirstToClose list number) c.deref.ensures.value c.in-Some.ensures in
    subst (λ (list : List Edge). NamesFirstToClose list c.edge_name.result) c.in_ok-edges.ensures
    (names_first edges number c.index.result.now (first_within edges number first) c.index.ensures c.edge_name.result first c.edge_name.ensures)

pub returns : goal.returns
returns c = subst (λ (edges : List Edge). HaveNoCycle edges) (c.deref.ensures.value ∙ c.in_ok-edges.ensures) c.in-None.ensures

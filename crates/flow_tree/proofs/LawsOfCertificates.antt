-- Every edge has a certificate, and only one. Laws that have no code, and proofs of every crate may cite them.
use Rattle.std.proofs.Common.{◌≡◌, inl, inr, ℕ, ◌<◌, Bool, List, [], length, refl, sym, ◌∙◌, arith}
use Rattle.std.proofs.lemmas.Bool.{cases_eq}
use Rattle.flow_graph.specs.declared.edge.Edge.{Edge}
use Rattle.graph_paths.proofs.LawsOfTrails.{Path-Simple, Simple, Trail-once}
use Rattle.flow_tree.specs.WitnessEdges.{Joins, joins_forth, IsMarked, IsUnmarked, AreGrown, IsCertificate}
use Rattle.flow_tree.proofs.Certified.{grown_cuts, grown_joins, certified, none_needed}
use Rattle.flow_tree.proofs.LawsOfJoins.{Joins-IsUndirected, edge_kind, inner, leaving, missing, leaving_joins_none}
use Rattle.flow_tree.proofs.Least.{both_marks, mark_cases}

module _ (edges : List Edge) (marks : List Bool) (grown : AreGrown edges marks) (number : ℕ) (within : number < length edges) where
  of_marked : IsMarked marks number → (path : List ℕ) × IsCertificate edges marks number path
  of_marked marked = elim (edge_kind edges number) [
    | inner from to there leads ↦
        let simple : Simple (Joins edges) (IsUnmarked marks) from to = Path-Simple (Joins-IsUndirected edges) cases_eq (grown_joins edges marks grown number from to (joins_forth leads)) in
        (simple.edges, certified edges marks number from to simple.edges marked leads (record { trail = simple.trail; once = simple.once; unmarked = simple.within }))
    | leaving there out ↦ ([], none_needed edges marks number [] refl (λ from to is leads. leaving_joins_none edges number from to out (joins_forth leads)))
    | missing past is ↦ absurd (omega (arith, past, within))
  ]

  -- an edge has a certificate
  pub certificate_exists : (path : List ℕ) × IsCertificate edges marks number path
  certificate_exists = elim (mark_cases marks number (omega (arith, within, grown.witnesses.count))) [
    | inl marked ↦ of_marked marked
    | inr unmarked ↦ ([], none_needed edges marks number [] refl (λ from to marked leads. both_marks marks number marked unmarked))
  ]

  same_of_marked : (mine theirs : List ℕ) → IsMarked marks number → IsCertificate edges marks number mine → IsCertificate edges marks number theirs → mine ≡ theirs
  same_of_marked mine theirs marked is is_too = elim (edge_kind edges number) [
    | inner from to there leads ↦
        let tree = is.of_witness from to marked leads in
        let tree_too = is_too.of_witness from to marked leads in
        Trail-once (Joins-IsUndirected edges) cases_eq (IsUnmarked marks) (grown_cuts edges marks grown).no_cycle mine theirs from to
        tree.unmarked tree_too.unmarked tree.once tree_too.once tree.trail tree_too.trail
    | leaving there out ↦ is.of_leaving out ∙ sym (is_too.of_leaving out)
    | missing past none ↦ absurd (omega (arith, past, within))
  ]

  -- and only one
  pub certificate_only : (mine theirs : List ℕ) → IsCertificate edges marks number mine → IsCertificate edges marks number theirs → mine ≡ theirs
  certificate_only mine theirs is is_too = elim (mark_cases marks number (omega (arith, within, grown.witnesses.count))) [
    | inl marked ↦ same_of_marked mine theirs marked is is_too
    | inr unmarked ↦ is.of_tree_edge unmarked ∙ sym (is_too.of_tree_edge unmarked)
  ]

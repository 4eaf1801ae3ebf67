-- What taking a leaf off leaves as it was.
use Rattle.std.proofs.Common.{◌≡◌, ◌≢◌, ◌⊎◌, inl, inr, ℕ, ◌-◌, ◌*◌, Bool, List, length, Some, refl, sym, ap, ◌∙◌, subst, arith}
use Rattle.std.specs.Prelude.{sum_by}
use Rattle.std.proofs.lemmas.Bool.{cases_eq}
use Rattle.std.proofs.lemmas.Option.{slice_get_within, same_Some}
use Rattle.flow_graph.specs.declared.edge.Edge.{Edge}
use Rattle.graph_paths.specs.Paths.{Path, here, over}
use Rattle.graph_paths.specs.Forests.{HasNoCycle, IsAmong}
use Rattle.graph_paths.proofs.LawsOfPaths.{Path-turned, Path-wider, Path-through, Through, Closes-path}
use Rattle.flow_tree.specs.declared.cells.Cell.{Cell}
use Rattle.flow_tree.specs.WitnessEdges.{Joins}
use Rattle.flow_tree.specs.Inner.Cells.{end_count, cell_of, AreCells, HaveEdges, IsLeaf, IsSettled, Remains, Strips}
use Rattle.flow_tree.proofs.Degrees.{only_one, counts_join}
use Rattle.flow_tree.proofs.LawsOfJoins.{Joins-IsUndirected}
use Rattle.flow_tree.proofs.Leaves.{never_times, same_cell}

module _ (edges : List Edge) (rest : List ℕ) (new : List Cell) (leaf far : ℕ) (strips : Strips edges rest new leaf far) where
  -- no path leads on from the leaf
  pub stays_at_leaf : {allowed : ℕ → Type 0} → ((other : ℕ) → allowed other → IsAmong strips.fewer other) → {one two : ℕ} → Path (Joins edges) allowed one two → one ≡ leaf → two ≡ leaf
  stays_at_leaf within here same = same
  stays_at_leaf within (over {mid = mid} edge is joined path) same = absurd (strips.bare edge mid (within edge is) (subst (λ (place : ℕ). Joins edges edge place mid) same joined))

  comes_from_leaf : {allowed : ℕ → Type 0} → ((other : ℕ) → allowed other → IsAmong strips.fewer other) → {one two : ℕ} → Path (Joins edges) allowed one two → two ≡ leaf → one ≡ leaf
  comes_from_leaf within path same = stays_at_leaf within (Path-turned (Joins-IsUndirected edges) path) same

  -- a path through the leaf's edge begins or ends at the leaf
  through_leaf : {allowed : ℕ → Type 0} → ((other : ℕ) → allowed other → IsAmong strips.fewer other) → (one two : ℕ) → Through (Joins edges) allowed strips.number one two → (one ≡ leaf) ⊎ (two ≡ leaf)
  through_leaf within one two through = elim ((Joins-IsUndirected edges).ends strips.number leaf far through.from through.to strips.joined through.ends) [
    | inl ends ↦ inl (comes_from_leaf within through.first (sym ends.0))
    | inr ends ↦ inr (stays_at_leaf within through.last (sym ends.0))
  ]

  pub acyclic_before : HasNoCycle (Joins edges) (IsAmong strips.fewer) → HasNoCycle (Joins edges) (IsAmong rest)
  acyclic_before forest edge is closes = elim (strips.back edge is) [
    | inl same ↦
        let path = Closes-path (Joins-IsUndirected edges) edge leaf far (subst (λ (e : ℕ). Joins edges e leaf far) (sym same) strips.joined) closes in
        strips.differ (stays_at_leaf (λ other both. others edge same other both) path refl)
    | inr behind ↦ elim (Path-through (Joins-IsUndirected edges) strips.number (Path-wider (λ other both. either edge other both) closes.path)) [
      | inl path ↦ forest edge behind (record { from = closes.from; to = closes.to; ends = closes.ends; path = path })
      | inr through ↦ elim (through_leaf (λ other both. both.0) closes.from closes.to through) [
        | inl same ↦ strips.bare edge closes.to behind (subst (λ (place : ℕ). Joins edges edge place closes.to) same closes.ends)
        | inr same ↦ strips.bare edge closes.from behind
            (subst (λ (place : ℕ). Joins edges edge place closes.from) same ((Joins-IsUndirected edges).turned edge closes.from closes.to closes.ends))
      ]
    ]
  ]
    where
      others : (edge : ℕ) → edge ≡ strips.number → (other : ℕ) → IsAmong rest other × (other ≢ edge) → IsAmong strips.fewer other
      others edge same other both = elim (strips.back other both.0) [ inl equal ↦ absurd (both.1 (equal ∙ sym same)) | inr behind ↦ behind ]

      either : (edge other : ℕ) → IsAmong rest other × (other ≢ edge) → (other ≡ strips.number) ⊎ (IsAmong strips.fewer other × (other ≢ edge))
      either edge other both = elim (strips.back other both.0) [ inl equal ↦ inl equal | inr behind ↦ inr (behind, both.1) ]

  -- what joins other blocks than the leaf still does
  pub joined_still : (one two : ℕ) → one ≢ leaf → two ≢ leaf → Path (Joins edges) (IsAmong rest) one two → Path (Joins edges) (IsAmong strips.fewer) one two
  joined_still one two first last path = elim (Path-through (Joins-IsUndirected edges) strips.number (Path-wider strips.back path)) [
    | inl without ↦ without
    | inr through ↦ elim (through_leaf (λ other is. is) one two through) [ inl same ↦ absurd (first same) | inr same ↦ absurd (last same) ]
  ]

  -- the leaf is none any more
  pub bare_leaf : IsLeaf new leaf → ⊥
  bare_leaf is =
      let within = slice_get_within new leaf (record { count = 1; sum = is.0 }) is.1 in
      let same : cell_of edges strips.fewer leaf ≡ record { count = 1; sum = is.0 } = same_Some (cell_of edges strips.fewer leaf) (record { count = 1; sum = is.0 }) (sym (strips.held.each leaf within) ∙ is.1) in
      let only = only_one edges leaf strips.fewer (ap (λ (cell : Cell). cell.count) same) in
      let ends = strips.held.inner only.number only.is in
      let join = counts_join edges leaf only.number ends.0 ends.1 ends.2 (omega (arith, only.one)) in
      strips.bare only.number join.0 only.is join.1

  -- and blocks but its far end are as they were
  pub leaf_before : (cells : List Cell) → AreCells edges rest cells → length new ≡ length cells → (block : ℕ) → block ≢ leaf → block ≢ far → IsLeaf new block → IsLeaf cells block
  leaf_before cells held long block one two is =
      let within = slice_get_within new block (record { count = 1; sum = is.0 }) is.1 in
      let same : cell_of edges strips.fewer block ≡ record { count = 1; sum = is.0 } = same_Some (cell_of edges strips.fewer block) (record { count = 1; sum = is.0 }) (sym (strips.held.each block within) ∙ is.1) in
      let none = strips.others block one two in
      let counts = strips.sum (end_count edges block) in
      let sums = strips.sum (λ (n : ℕ). end_count edges block n * n) in (
        is.0,
        held.each block (omega (arith, within, long))
            ∙ ap (λ (cell : Cell). Some cell)
            (same_cell (sum_by (end_count edges block) rest) (sum_by (λ (n : ℕ). end_count edges block n * n) rest) (sum_by (end_count edges block) strips.fewer) (sum_by (λ (n : ℕ). end_count edges block n * n) strips.fewer)
            (omega (arith, counts, none)) (omega (arith, sums, never_times edges block strips.number none)) ∙ same),
      )

pub have_fewer : (edges : List Edge) (cells new : List Cell) (left leaf far : ℕ) → HaveEdges edges cells left → ((rest : List ℕ) → AreCells edges rest cells → Strips edges rest new leaf far) → HaveEdges edges new (left - 1)
have_fewer edges cells new left leaf far have strips =
    let strip = strips have.rest have.held in record { rest = strip.fewer; held = strip.held; count = omega (arith, have.count, strip.count) }

pub remains_fewer : (edges : List Edge) (marks : List Bool) (stays : List ℕ) (cells new : List Cell) (left leaf far : ℕ) → (IsAmong stays leaf → ⊥)
    → ((rest : List ℕ) → AreCells edges rest cells → Strips edges rest new leaf far) → Remains edges marks stays cells left → Remains edges marks stays new (left - 1)
remains_fewer edges marks stays cells new left leaf far goes strips remains =
    let strip = strips remains.rest remains.held in
    record {
      rest = strip.fewer;
      held = strip.held;
      count = omega (arith, remains.count, strip.count);
      within = λ number is. remains.within number (strip.within number is).0;
      acyclic = λ forest. remains.acyclic (acyclic_before edges remains.rest new leaf far strip forest);
      joined = λ one two one_stays two_stays path.
          joined_still edges remains.rest new leaf far strip one two (λ same. goes (subst (IsAmong stays) same one_stays)) (λ same. goes (subst (IsAmong stays) same two_stays))
          (remains.joined one two one_stays two_stays path);
    }

pub settled_but : (edges : List Edge) (stays : List ℕ) (cells new : List Cell) (left leaf far other : ℕ) → HaveEdges edges cells left → length new ≡ length cells
    → ((rest : List ℕ) → AreCells edges rest cells → Strips edges rest new leaf far) → (other ≡ leaf) ⊎ IsSettled stays cells other → (other ≡ far) ⊎ IsSettled stays new other
settled_but edges stays cells new left leaf far other have long strips before =
    let strip = strips have.rest have.held in
    elim (cases_eq other far) [
      | inl same ↦ inl same
      | inr differ ↦ elim (cases_eq other leaf) [
        | inl same ↦ inr (inr (subst (λ (b : ℕ). IsLeaf new b → ⊥) (sym same) (bare_leaf edges have.rest new leaf far strip)))
        | inr other_differs ↦ elim before [
          | inl same ↦ absurd (other_differs same)
          | inr settled ↦ elim settled [
            | inl stay ↦ inr (inl stay)
            | inr no_leaf ↦ inr (inr (λ is. no_leaf (leaf_before edges have.rest new leaf far strip cells have.held long other other_differs differ is)))
          ]
        ]
      ]
    ]

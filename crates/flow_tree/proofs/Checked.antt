-- What is left when all leaves are off.
use Rattle.std.proofs.Common.{◌≡◌, inl, inr, ℕ, ◌*◌, ◌<◌, Bool, true, false, eqb, List, [], ◌∷◌, length, Some, None, refl, sym, ap, ◌∙◌, arith}
use Rattle.std.specs.Prelude.{sum_by, IsTrue, ◌↔◌}
use Rattle.std.proofs.lemmas.Bool.{cases_eq, eq-eqb, ne_eqb}
use Rattle.std.proofs.lemmas.Option.{slice_get_within}
use Rattle.flow_graph.specs.declared.edge.Edge.{Edge}
use Rattle.graph_paths.specs.Forests.{HasNoCycle, IsAmong}
use Rattle.graph_paths.proofs.LawsOfPaths.{Path-wider}
use Rattle.graph_paths.proofs.LawsOfForests.{HasNoCycle-within}
use Rattle.flow_tree.specs.declared.cells.Cell.{Cell}
use Rattle.flow_tree.specs.WitnessEdges.{LeavesCode, Joins, joins_forth, IsMarked, IsUnmarked, CutsCycles}
use Rattle.flow_tree.specs.Inner.Cells.{end_count, AreCells, IsFilled, IsLeaf, IsSettled, Remains}
use Rattle.flow_tree.proofs.Degrees.{only_one, counts_join}
use Rattle.flow_tree.proofs.LawsOfJoins.{inner, leaving, missing, edge_kind, leaving_joins_none}
use Rattle.flow_tree.proofs.LeafTrails.{leaf_trail}
use Rattle.flow_tree.proofs.Leaves.{same_cell}
use Rattle.flow_tree.proofs.Least.{mark_cases}

unmarked_among : (edges : List Edge) (marks : List Bool) (cells : List Cell) (left : ℕ) → length marks ≡ length edges → (filled : IsFilled edges marks cells (length edges) left) → (number : ℕ) → IsUnmarked marks number → IsAmong filled.rest number
unmarked_among edges marks cells left count filled number is = filled.back number (let within = slice_get_within marks number false is in omega (arith, within, count)) is

pub filled_remains : (edges : List Edge) (marks : List Bool) (stays : List ℕ) (cells : List Cell) (left : ℕ) → length marks ≡ length edges → IsFilled edges marks cells (length edges) left → Remains edges marks stays cells left
filled_remains edges marks stays cells left count filled = record {
  rest = filled.rest;
  held = filled.held;
  count = filled.count;
  within = λ number is. (filled.among number is).1;
  acyclic = HasNoCycle-within (unmarked_among edges marks cells left count filled);
  joined = λ one other one_stays other_stays path. Path-wider (unmarked_among edges marks cells left count filled) path;
}

-- where all edges that aren't marked are in cells, each that leaves is marked
pub filled_leaving : (edges : List Edge) (marks : List Bool) (cells : List Cell) (left : ℕ) → length marks ≡ length edges → IsFilled edges marks cells (length edges) left → (number : ℕ) → LeavesCode edges number → IsMarked marks number
filled_leaving edges marks cells left count filled number out = elim (edge_kind edges number) [
  | inner from to within leads ↦ absurd (leaving_joins_none edges number from to out (joins_forth leads))
  | leaving within again ↦ elim (mark_cases marks number (omega (arith, count))) [
    | inl marked ↦ marked
    | inr unmarked ↦
        let ends = filled.held.inner number (filled.back number within unmarked) in
        absurd (leaving_joins_none edges number ends.0 ends.1 out (joins_forth ends.2))
  ]
  | missing past none ↦ absurd (let same : None ≡ Some (out.from, None) = sym none ∙ out.ends in cc)
]

none_left : (list : List ℕ) (number : ℕ) → 0 ≡ length list → IsAmong list number → ⊥
none_left [] number none is = is
none_left (first ∷ rest) number none is = absurd (omega arith)

pub passes : (edges : List Edge) (marks : List Bool) (cells : List Cell) (left : ℕ) → left ≡ 0 → Remains edges marks [] cells left → ((number : ℕ) → LeavesCode edges number → IsMarked marks number) → CutsCycles edges marks
passes edges marks cells left none remains leave = record {
  leaving = leave;
  no_cycle = remains.acyclic (λ number is closes. none_left remains.rest number (sym none ∙ remains.count) is);
}

-- a block at which one edge ends is a leaf
pub leaf_here : (edges : List Edge) (rest : List ℕ) (cells : List Cell) (block : ℕ) → AreCells edges rest cells → ((edge one other : ℕ) → Joins edges edge one other → one < length cells)
    → sum_by (end_count edges block) rest ≡ 1 → IsLeaf cells block
leaf_here edges rest cells block held blocks one =
    let only = only_one edges block rest one in
    let ends = held.inner only.number only.is in
    let join = counts_join edges block only.number ends.0 ends.1 ends.2 (omega (arith, only.one)) in (
      sum_by (λ (n : ℕ). end_count edges block n * n) rest,
      held.each block (blocks only.number block join.0 join.1)
          ∙ ap (λ (cell : Cell). Some cell)
          (same_cell (sum_by (end_count edges block) rest) (sum_by (λ (n : ℕ). end_count edges block n * n) rest) 1 (sum_by (λ (n : ℕ). end_count edges block n * n) rest) one refl),
    )

some_left : (list : List ℕ) → (length list ≡ 0 → ⊥) → (number : ℕ) × IsAmong list number
some_left [] some = absurd (some refl)
some_left (first ∷ rest) some = (first, inl refl)

pub fails : (edges : List Edge) (marks : List Bool) (cells : List Cell) (left : ℕ) → (left ≡ 0 → ⊥) → Remains edges marks [] cells left → ((block : ℕ) → block < length cells → IsSettled [] cells block)
    → ((edge one other : ℕ) → Joins edges edge one other → one < length cells) → CutsCycles edges marks → ⊥
fails edges marks cells left some remains settled blocks cuts =
    let forest : HasNoCycle (Joins edges) (IsAmong remains.rest) = HasNoCycle-within remains.within cuts.no_cycle in
    let first = some_left remains.rest (λ none. some (remains.count ∙ none)) in
    let ends = remains.held.inner first.0 first.1 in
    let trail = leaf_trail edges remains.rest remains.held.once remains.held.inner forest first.0 ends.0 ends.1 first.1 (joins_forth ends.2) in
    let leaf = leaf_here edges remains.rest cells trail.leaf remains.held blocks trail.one_end in
    let within = slice_get_within cells trail.leaf (record { count = 1; sum = leaf.0 }) leaf.1 in
    elim (settled trail.leaf within) [ inl nowhere ↦ absurd nowhere | inr no_leaf ↦ no_leaf leaf ]

-- whether none is left
pub none_left_exactly : (left : ℕ) (C : Type 0) → (left ≡ 0 → C) → ((left ≡ 0 → ⊥) → C → ⊥) → IsTrue (eqb left 0) ↔ C
none_left_exactly left C pass fail = elim (cases_eq left 0) [
  | inl same ↦ (λ is. pass same, λ holds. eq-eqb left 0 same)
  | inr differ ↦ (λ is. absurd (let clash : true ≡ false = sym is ∙ ne_eqb left 0 differ in cc), λ holds. absurd (fail differ holds))
]

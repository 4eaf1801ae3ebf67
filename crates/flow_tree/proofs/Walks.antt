-- Walking along the only path that is left.
use Rattle.std.proofs.Common.{◌≡◌, ◌≢◌, inl, inr, ℕ, zero, suc, ◌<◌, ◌≤◌, Bool, false, List, [], ◌∷◌, ◌++◌, length, get_or, Some, refl, sym, ◌∙◌, subst, arith, replicate}
use Rattle.std.specs.Prelude.{slice_get, sum_by}
use Rattle.std.proofs.lemmas.Bool.{cases_eq}
use Rattle.std.proofs.lemmas.Option.{slice_get_within}
use Rattle.flow_graph.specs.declared.edge.Edge.{Edge}
use Rattle.graph_paths.specs.Paths.{Path, here, over}
use Rattle.graph_paths.specs.Forests.{HasNoCycle, IsAmong, StandOnce, Trail}
use Rattle.graph_paths.proofs.LawsOfPaths.{Path-wider, Path-through}
use Rattle.graph_paths.proofs.LawsOfForests.{HasNoCycle-within}
use Rattle.graph_paths.proofs.LawsOfTrails.{Trail-once}
use Rattle.graph_paths.proofs.LawsOfMembers.{among_either}
use Rattle.flow_tree.specs.declared.cells.Cell.{Cell}
use Rattle.flow_tree.specs.WitnessEdges.{Joins, IsUnmarked, IsTreePath}
use Rattle.flow_tree.specs.Inner.Cells.{end_count, AreCells, IsLeaf, IsSettled, Remains, Strips}
use Rattle.flow_tree.specs.Inner.Walks.{IsWalked}
use Rattle.flow_tree.proofs.Checked.{leaf_here}
use Rattle.flow_tree.proofs.Degrees.{joins_counts, counts_join}
use Rattle.flow_tree.proofs.LawsOfJoins.{Joins-IsUndirected, joins_within}
use Rattle.flow_tree.proofs.LeafTrails.{leaf_trail, at_most_one, some_counts, once_more, trail_on, no_longer}
use Rattle.flow_tree.proofs.Leaves.{no_cell, leaf_edge}
use Rattle.flow_tree.proofs.Least.{unmarked_from, list_unmarked, list_once}
use Rattle.flow_tree.proofs.Settling.{stays_at_leaf, bare_leaf, leaf_before}
use Rattle.flow_tree.proofs.Without.{without}

-- before the first step
pub walk_begins : (edges : List Edge) (marks : List Bool) (cells : List Cell) (left from to : ℕ) → Remains edges marks (from ∷ to ∷ []) cells left
    → ((block : ℕ) → block < length cells → IsSettled (from ∷ to ∷ []) cells block) → Path (Joins edges) (IsUnmarked marks) from to → IsWalked edges marks cells [] from from to
walk_begins edges marks cells left from to remains settled path = record {
  rest = remains.rest;
  held = remains.held;
  within = remains.within;
  onward = remains.joined from to (inl refl) (inr (inl refl)) path;
  settled = λ block within one two leaf. elim (settled block within) [
    | inl stays ↦ elim stays [ inl same ↦ one same | inr behind ↦ elim behind [ inl same ↦ two same | inr nowhere ↦ absurd nowhere ] ]
    | inr no_leaf ↦ no_leaf leaf
  ];
  trail = refl;
  once = tt;
  walked = λ number is. absurd is;
  apart = λ number is. absurd is;
}

first_same : (one two : ℕ) (rest more : List ℕ) → one ∷ rest ≡ two ∷ more → one ≡ two
first_same one two rest more same = cc

module _ (edges : List Edge) (marks : List Bool) (cells : List Cell) (path : List ℕ) (from at to : ℕ) (walked : IsWalked edges marks cells path from at to)
    (forest : HasNoCycle (Joins edges) (IsUnmarked marks)) (blocks : (edge one other : ℕ) → Joins edges edge one other → one < length cells) (on : at ≢ to) where
  rest_forest : HasNoCycle (Joins edges) (IsAmong walked.rest)
  rest_forest = HasNoCycle-within walked.within forest

  -- a trail that begins with an edge there ends at the target, unless the block is a leaf itself
  ends_at_target : (edge far : ℕ) → IsAmong walked.rest edge → Joins edges edge at far → (sum_by (end_count edges at) walked.rest ≡ 1 → ⊥)
      → (more : List ℕ) × Trail (Joins edges) (edge ∷ more) at to × StandOnce (edge ∷ more) × ((e : ℕ) → IsAmong (edge ∷ more) e → IsAmong walked.rest e)
  ends_at_target edge far is joined several =
      let trail = leaf_trail edges walked.rest walked.held.once walked.held.inner rest_forest edge at far is joined in
      let leaf = leaf_here edges walked.rest cells trail.leaf walked.held blocks trail.one_end in
      let within = slice_get_within cells trail.leaf (record { count = 1; sum = leaf.0 }) leaf.1 in
      let target : trail.leaf ≡ to = elim (cases_eq trail.leaf to) [
        | inl same ↦ same
        | inr differ ↦ absurd (walked.settled trail.leaf within (λ same. several (subst (λ (b : ℕ). sum_by (end_count edges b) walked.rest ≡ 1) same trail.one_end)) differ leaf)
      ] in
      (trail.rest, subst (Trail (Joins edges) (edge ∷ trail.rest) at) target trail.trail, trail.once, trail.within)

  -- two edges there would lead to the target
  not_two : (edge other far beyond : ℕ) → IsAmong walked.rest edge → IsAmong walked.rest other → Joins edges edge at far → Joins edges other at beyond → other ≢ edge
      → (sum_by (end_count edges at) walked.rest ≡ 1 → ⊥) → ⊥
  not_two edge other far beyond is other_is joined other_joined differ several =
      let mine = ends_at_target edge far is joined several in
      let theirs = ends_at_target other beyond other_is other_joined several in
      let same = Trail-once (Joins-IsUndirected edges) cases_eq (IsAmong walked.rest) rest_forest (edge ∷ mine.0) (other ∷ theirs.0) at to mine.3 theirs.3 mine.2 theirs.2 mine.1 theirs.1 in
      differ (sym (first_same edge other mine.0 theirs.0 same))

  one_only : (edge far : ℕ) → IsAmong walked.rest edge → Joins edges edge at far → sum_by (end_count edges at) walked.rest ≡ 1
  one_only edge far is joined = elim (cases_eq (sum_by (end_count edges at) walked.rest) 1) [
    | inl one ↦ one
    | inr several ↦
        let fewer = without walked.rest edge is walked.held.once in
        let parts = fewer.sum (end_count edges at) in
        let some = joins_counts edges at edge far joined in
        let few = at_most_one edges walked.rest walked.held.once walked.held.inner rest_forest at edge is in
        let other = some_counts (end_count edges at) fewer.rest (omega (arith, parts, some, few, several)) in
        let both = fewer.within other.0 other.1 in
        let ends = walked.held.inner other.0 both.0 in
        let join = counts_join edges at other.0 ends.0 ends.1 ends.2 other.2 in
        absurd (not_two edge other.0 far join.0 is both.0 joined join.1 both.1 several)
  ]

  by_path : {target : ℕ} {start : ℕ} → start ≡ at → target ≡ to → Path (Joins edges) (IsAmong walked.rest) start target → IsLeaf cells at
  by_path start_is target_is here = absurd (on (sym start_is ∙ target_is))
  by_path start_is target_is (over {mid = mid} edge is joined path) =
      leaf_here edges walked.rest cells at walked.held blocks (one_only edge mid is (subst (λ (place : ℕ). Joins edges edge place mid) start_is joined))

  -- the block is a leaf
  pub at_leaf : IsLeaf cells at
  at_leaf = by_path refl refl walked.onward

  -- the step that takes it off
  module _ (new : List Cell) (far number : ℕ) (strips : Strips edges walked.rest new at far) (long : length new ≡ length cells) (number_is : number ≡ strips.number) where
    onward_now : Path (Joins edges) (IsAmong strips.fewer) far to
    onward_now = elim (Path-through (Joins-IsUndirected edges) strips.number (Path-wider strips.back walked.onward)) [
      | inl path ↦ absurd (on (sym (stays_at_leaf edges walked.rest new at far strips (λ other is. is) path refl)))
      | inr through ↦ elim ((Joins-IsUndirected edges).ends strips.number at far through.from through.to strips.joined through.ends) [
        | inl ends ↦ subst (λ (place : ℕ). Path (Joins edges) (IsAmong strips.fewer) place to) (sym ends.1) through.last
        | inr ends ↦ absurd (on (sym (stays_at_leaf edges walked.rest new at far strips (λ other is. is) through.last (sym ends.0))))
      ]
    ]

    fresh : IsAmong path number → ⊥
    fresh is = walked.apart strips.number (subst (IsAmong path) number_is is) strips.is

    pub walks_on : IsWalked edges marks new (path ++ number ∷ []) from far to
    walks_on = record {
      rest = strips.fewer;
      held = strips.held;
      within = λ other is. walked.within other (strips.within other is).0;
      onward = onward_now;
      settled = λ block within one two leaf. elim (cases_eq block at) [
        | inl same ↦ bare_leaf edges walked.rest new at far strips (subst (IsLeaf new) same leaf)
        | inr differ ↦ walked.settled block (omega (arith, within, long)) differ two (leaf_before edges walked.rest new at far strips cells walked.held long block differ one leaf)
      ];
      trail = trail_on edges path number from at far walked.trail (subst (λ (n : ℕ). Joins edges n at far) (sym number_is) strips.joined);
      once = once_more path number fresh walked.once;
      walked = λ other is. elim (among_either path (number ∷ []) other is) [
        | inl old ↦ walked.walked other old
        | inr new_is ↦ elim new_is [ inl same ↦ subst (IsUnmarked marks) (sym (same ∙ number_is)) (walked.within strips.number strips.is) | inr nowhere ↦ absurd nowhere ]
      ];
      apart = λ other is left. elim (among_either path (number ∷ []) other is) [
        | inl old ↦ walked.apart other old (strips.within other left).0
        | inr new_is ↦ elim new_is [ inl same ↦ (strips.within other left).1 (same ∙ number_is) | inr nowhere ↦ absurd nowhere ]
      ];
    }

-- the edge that a leaf's cell names is the one that is taken off
pub names_taken : (edges : List Edge) (rest : List ℕ) (cells new : List Cell) (leaf far : ℕ) → AreCells edges rest cells → IsLeaf cells leaf → (strips : Strips edges rest new leaf far) → (get_or cells leaf no_cell).sum ≡ strips.number
names_taken edges rest cells new leaf far held is_leaf strips =
    let known = leaf_edge edges rest cells leaf held is_leaf in
    elim (strips.back (get_or cells leaf no_cell).sum known.is) [
      | inl same ↦ same
      | inr behind ↦
          let join = counts_join edges leaf (get_or cells leaf no_cell).sum known.from known.to known.leads (omega (arith, known.one)) in
          absurd (strips.bare (get_or cells leaf no_cell).sum join.0 behind join.1)
    ]

replicate_false : (count place : ℕ) → place < count → slice_get (replicate count false) place ≡ Some false
replicate_false zero place less = absurd (omega arith)
replicate_false (suc count) zero less = refl
replicate_false (suc count) (suc place) less = replicate_false count place (omega arith)

all_numbers : (number count : ℕ) → length (unmarked_from number (replicate count false)) ≡ count
all_numbers number zero = refl
all_numbers number (suc count) = let rest = all_numbers (suc number) count in omega (arith, rest)

-- a list of edges, none twice, has no more than there are
pub no_more_than : (list : List ℕ) (count : ℕ) → StandOnce list → ((number : ℕ) → IsAmong list number → number < count) → length list ≤ count
no_more_than list count once below =
    let few = no_longer list (unmarked_from 0 (replicate count false)) once (list_once (replicate count false))
    (λ number is. list_unmarked (replicate count false) number (replicate_false count number (below number is))) in
    omega (arith, few, all_numbers 0 count)

trail_within : (edges : List Edge) (path : List ℕ) (one two : ℕ) → Trail (Joins edges) path one two → (number : ℕ) → IsAmong path number → number < length edges
trail_within edges [] one two trail number is = absurd is
trail_within edges (first ∷ rest) one two trail number (inl same) = subst (λ (n : ℕ). n < length edges) (sym same) (joins_within edges first one trail.0 trail.1)
trail_within edges (first ∷ rest) one two trail number (inr behind) = trail_within edges rest trail.0 two trail.2 number behind

pub walked_few : (edges : List Edge) (marks : List Bool) (cells : List Cell) (path : List ℕ) (from at to : ℕ) → IsWalked edges marks cells path from at to → length path ≤ length edges
walked_few edges marks cells path from at to walked = no_more_than path (length edges) walked.once (trail_within edges path from at walked.trail)

pub walked_all : (edges : List Edge) (marks : List Bool) (cells : List Cell) (path : List ℕ) (from at to : ℕ) → at ≡ to → IsWalked edges marks cells path from at to → IsTreePath edges marks path from to
walked_all edges marks cells path from at to same walked = record { trail = subst (Trail (Joins edges) path from) same walked.trail; once = walked.once; unmarked = walked.walked }

pub replicate_cell : (count place : ℕ) → place < count → slice_get (replicate count no_cell) place ≡ Some no_cell
replicate_cell zero place less = absurd (omega arith)
replicate_cell (suc count) zero less = refl
replicate_cell (suc count) (suc place) less = replicate_cell count place (omega arith)

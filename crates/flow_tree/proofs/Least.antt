-- What is grown so that no edge of it is a witness, and so that it joins whatever edges join, has exactly the witnesses off it, and they
-- have the least weight.
use Rattle.std.proofs.Common.{◌≡◌, ◌⊎◌, inl, inr, ℕ, zero, suc, ◌+◌, ◌-◌, ◌<◌, ◌≤◌, Bool, true, false, cond, List, [], ◌∷◌, length, get_or, Some, None, refl, sym, ap, ◌∙◌, subst, arith}
use Rattle.std.specs.Prelude.{slice_get, slice_index, sum_by}
use Rattle.std.specs.List.{zip}
use Rattle.std.proofs.lemmas.List.Sums.{sum_by-cons}
use Rattle.std.proofs.lemmas.Option.{slice_get_within, slice_get_cases}
use Rattle.flow_graph.specs.declared.edge.Edge.{Edge}
use Rattle.graph_paths.specs.Paths.{Closes}
use Rattle.graph_paths.specs.Forests.{IsAmong, StandOnce, HasNoCycle, IsForest}
use Rattle.graph_paths.proofs.LawsOfPaths.{Path-edge, Path-instead, Path-wider, Closes-wider}
use Rattle.graph_paths.proofs.LawsOfForests.{HasNoCycle-within, Retains-among, Retains-ClosesNone, ClosesNone-HasNoCycle}
use Rattle.graph_paths.proofs.LawsOfWeights.{Retains-best}
use Rattle.flow_tree.specs.WitnessEdges.{LeavesCode, Joins, joins_forth, joins_back, RanksBefore, IsWitness, leaves, closes, IsUnmarked, AreWitnesses, CutsCycles, marked_weight, HaveLeastWeight}
use Rattle.flow_tree.specs.Inner.Growing.{IsSpanning}
use Rattle.flow_tree.proofs.LawsOfJoins.{Joins-IsUndirected, Joins-IsReadable, inner, leaving, missing, edge_kind, leaving_joins_none, joins_within}
use Rattle.flow_tree.proofs.Without.{fewer_weigh}
use Rattle.flow_tree.proofs.Ranked.{AllRanked, all_ranked, AreRanked-StandOnce, AreRanked-BestLast, KeptOf, kept_of, Retains-StandOnce, Better, kept_or_closed}

pub both_marks : (marks : List Bool) (number : ℕ) → slice_get marks number ≡ Some true → slice_get marks number ≡ Some false → ⊥
both_marks marks number is other = absurd (let same : Some true ≡ Some false = sym is ∙ other in cc)

-- an edge is marked or it isn't
pub mark_cases : (marks : List Bool) (number : ℕ) → number < length marks → (slice_get marks number ≡ Some true) ⊎ IsUnmarked marks number
mark_cases marks number within = elim (slice_get_cases marks number).1 [
  | inl there ↦ by_mark there.0 there.2
  | inr past ↦ absurd (omega (arith, past.0))
]
  where
    by_mark : (mark : Bool) → slice_get marks number ≡ Some mark → (slice_get marks number ≡ Some true) ⊎ IsUnmarked marks number
    by_mark true is = inl is
    by_mark false is = inr is

-- the numbers of the edges that aren't marked, from a number on
abbrev pub unmarked_from : (number : ℕ) → List Bool → List ℕ
unmarked_from number [] = []
unmarked_from number (true ∷ marks) = unmarked_from (suc number) marks
unmarked_from number (false ∷ marks) = number ∷ unmarked_from (suc number) marks

unmarked_above : (number : ℕ) (marks : List Bool) (edge : ℕ) → IsAmong (unmarked_from number marks) edge → number ≤ edge
unmarked_above number [] edge is = absurd is
unmarked_above number (true ∷ marks) edge is = let above = unmarked_above (suc number) marks edge is in omega arith
unmarked_above number (false ∷ marks) edge (inl same) = omega arith
unmarked_above number (false ∷ marks) edge (inr behind) = let above = unmarked_above (suc number) marks edge behind in omega arith

unmarked_once : (number : ℕ) (marks : List Bool) → StandOnce (unmarked_from number marks)
unmarked_once number [] = tt
unmarked_once number (true ∷ marks) = unmarked_once (suc number) marks
unmarked_once number (false ∷ marks) = (λ is. let above = unmarked_above (suc number) marks number is in absurd (omega arith), unmarked_once (suc number) marks)

later_mark : (number edge : ℕ) (mark : Bool) (marks : List Bool) → suc number ≤ edge → slice_get marks (edge - suc number) ≡ slice_get (mark ∷ marks) (edge - number)
later_mark number edge mark marks above = let e : edge - number ≡ suc (edge - suc number) = omega arith in ap (slice_get (mark ∷ marks)) (sym e)

unmarked_is : (number : ℕ) (marks : List Bool) (edge : ℕ) → IsAmong (unmarked_from number marks) edge → slice_get marks (edge - number) ≡ Some false
unmarked_is number [] edge is = absurd is
unmarked_is number (true ∷ marks) edge is = sym (later_mark number edge true marks (unmarked_above (suc number) marks edge is)) ∙ unmarked_is (suc number) marks edge is
unmarked_is number (false ∷ marks) edge (inl same) = let e : edge - number ≡ 0 = omega arith in ap (slice_get (false ∷ marks)) e
unmarked_is number (false ∷ marks) edge (inr behind) = sym (later_mark number edge false marks (unmarked_above (suc number) marks edge behind)) ∙ unmarked_is (suc number) marks edge behind

is_unmarked : (number : ℕ) (marks : List Bool) (more : ℕ) → slice_get marks more ≡ Some false → IsAmong (unmarked_from number marks) (number + more)
is_unmarked number [] more is = absurd (let same : None ≡ Some false = is in cc)
is_unmarked number (true ∷ marks) zero is = absurd (let same : Some true ≡ Some false = is in cc)
is_unmarked number (false ∷ marks) zero is = inl (omega arith)
is_unmarked number (true ∷ marks) (suc more) is =
    let e : suc number + more ≡ number + suc more = omega arith in subst (IsAmong (unmarked_from (suc number) marks)) e (is_unmarked (suc number) marks more is)
is_unmarked number (false ∷ marks) (suc more) is =
    let e : suc number + more ≡ number + suc more = omega arith in inr (subst (IsAmong (unmarked_from (suc number) marks)) e (is_unmarked (suc number) marks more is))

-- the numbers of the edges that aren't marked
pub unmarked_list : (marks : List Bool) (edge : ℕ) → IsAmong (unmarked_from 0 marks) edge → IsUnmarked marks edge
unmarked_list marks edge is = let e : edge - 0 ≡ edge = omega arith in subst (IsUnmarked marks) e (unmarked_is 0 marks edge is)

pub list_unmarked : (marks : List Bool) (edge : ℕ) → IsUnmarked marks edge → IsAmong (unmarked_from 0 marks) edge
list_unmarked marks edge is = let e : 0 + edge ≡ edge = omega arith in subst (IsAmong (unmarked_from 0 marks)) e (is_unmarked 0 marks edge is)

pub list_once : (marks : List Bool) → StandOnce (unmarked_from 0 marks)
list_once marks = unmarked_once 0 marks

-- marked and unmarked edges weigh together what all weigh
abbrev weight_if : Bool × ℕ → ℕ
weight_if each = cond each.0 each.1 0

parts_weigh : (weight : ℕ → ℕ) (number : ℕ) (marks : List Bool) (weights : List ℕ) → length weights ≡ length marks → ((more : ℕ) → weight (number + more) ≡ get_or weights more 0)
    → sum_by weight_if (zip marks weights) + sum_by weight (unmarked_from number marks) ≡ sum_by (λ x. x) weights
parts_weigh weight number [] [] count same = refl
parts_weigh weight number [] (w ∷ weights) count same = absurd (omega (arith, count))
parts_weigh weight number (mark ∷ marks) [] count same = absurd (omega (arith, count))
parts_weigh weight number (true ∷ marks) (w ∷ weights) count same =
    let rest = parts_weigh weight (suc number) marks weights (omega (arith, count)) (λ more. let e : suc number + more ≡ number + suc more = omega arith in ap weight e ∙ same (suc more)) in
    omega (arith, sum_by-cons weight_if (true, w) (zip marks weights), sum_by-cons (λ (x : ℕ). x) w weights, rest)
parts_weigh weight number (false ∷ marks) (w ∷ weights) count same =
    let rest = parts_weigh weight (suc number) marks weights (omega (arith, count)) (λ more. let e : suc number + more ≡ number + suc more = omega arith in ap weight e ∙ same (suc more)) in
    let here : number + 0 ≡ number = omega arith in
    let weighs : weight number ≡ w = ap weight (sym here) ∙ same 0 in
    omega (arith, sum_by-cons weight_if (false, w) (zip marks weights), sum_by-cons (λ (x : ℕ). x) w weights, sum_by-cons weight number (unmarked_from (suc number) marks), weighs, rest)

parts_of_all : (weights : List ℕ) (marks : List Bool) → length weights ≡ length marks → marked_weight weights marks + sum_by (slice_index weights) (unmarked_from 0 marks) ≡ sum_by (λ x. x) weights
parts_of_all weights marks count = parts_weigh (slice_index weights) 0 marks weights count (λ more. let e : 0 + more ≡ more = omega arith in ap (slice_index weights) e)

module _ (edges : List Edge) (weights : List ℕ) where
  abbrev pub ranked : AllRanked edges weights (length edges)
  ranked = all_ranked edges weights (length edges)

  abbrev pub kept : KeptOf edges ranked.all
  kept = kept_of edges ranked.all

  pub joins_ranked : (number one other : ℕ) → Joins edges number one other → IsAmong ranked.all number
  joins_ranked number one other (joins_forth leads) = ranked.inner number one other (joins_within edges number one other (joins_forth leads)) leads
  joins_ranked number one other (joins_back leads) = ranked.inner number other one (joins_within edges number one other (joins_back leads)) leads

  -- what an edge closes over are edges of the list
  pub among_ranked : (number : ℕ) → Closes (Joins edges) (λ other. RanksBefore weights other number) number → Closes (Joins edges) (Better weights ranked.all number) number
  among_ranked number closed = record {
    from = closed.from;
    to = closed.to;
    ends = closed.ends;
    path = Path-instead (λ other one two before joined. Path-edge other one two (joins_ranked other one two joined, before) joined) closed.path;
  }

  -- an inner edge that isn't a witness is kept
  no_witness_kept : (number one other : ℕ) → Joins edges number one other → (IsWitness edges weights number → ⊥) → IsAmong kept.kept number
  no_witness_kept number one other joined none = elim (kept_or_closed edges weights number ranked.ranked kept.keeps (joins_ranked number one other joined)) [
    | inl both ↦ both.0
    | inr closed ↦ absurd (none (closes (Closes-wider (λ e better. better.1) number closed)))
  ]

  pub kept_acyclic : HasNoCycle (Joins edges) (IsAmong kept.kept)
  kept_acyclic = ClosesNone-HasNoCycle (Joins-IsUndirected edges) kept.kept (Retains-ClosesNone kept.keeps)

  module _ (marks : List Bool) (spanning : IsSpanning edges weights marks) where
    unmarked_kept : (number : ℕ) → IsUnmarked marks number → IsAmong kept.kept number
    unmarked_kept number is = elim (edge_kind edges number) [
      | inner from to within leads ↦ no_witness_kept number from to (joins_forth leads) (spanning.chosen number is)
      | leaving within out ↦ absurd (spanning.chosen number is (leaves out))
      | missing past none ↦ absurd (let within = slice_get_within marks number false is in omega (arith, spanning.count))
    ]

    -- no marked edge is kept
    pub marked_dropped : (number one other : ℕ) → slice_get marks number ≡ Some true → Joins edges number one other → IsAmong kept.kept number → ⊥
    marked_dropped number one other marked joined is = kept_acyclic number is (record {
      from = one;
      to = other;
      ends = joined;
      path = Path-wider
          (λ e unmarked. (unmarked_kept e unmarked, λ same. both_marks marks number marked (subst (IsUnmarked marks) same unmarked)))
          (spanning.joined number one other joined);
    })

    marked_witness : (number : ℕ) → slice_get marks number ≡ Some true → IsWitness edges weights number
    marked_witness number marked = elim (edge_kind edges number) [
      | inner from to within leads ↦ elim (kept_or_closed edges weights number ranked.ranked kept.keeps (joins_ranked number from to (joins_forth leads))) [
        | inl both ↦ absurd (marked_dropped number from to marked (joins_forth leads) both.0)
        | inr closed ↦ closes (Closes-wider (λ e better. better.1) number closed)
      ]
      | leaving within out ↦ leaves out
      | missing past none ↦ absurd (let within = slice_get_within marks number true marked in omega (arith, spanning.count))
    ]

    leaving_marked : (number : ℕ) → LeavesCode edges number → slice_get marks number ≡ Some true
    leaving_marked number out = elim (edge_kind edges number) [
      | inner from to within leads ↦ absurd (leaving_joins_none edges number from to out (joins_forth leads))
      | leaving within again ↦ elim (mark_cases marks number (omega (arith, spanning.count))) [
        | inl marked ↦ marked
        | inr unmarked ↦ absurd (spanning.chosen number unmarked (leaves out))
      ]
      | missing past none ↦ absurd (let same : None ≡ Some (out.from, None) = sym none ∙ out.ends in cc)
    ]

    kept_unmarked : (number : ℕ) → IsAmong kept.kept number → IsUnmarked marks number
    kept_unmarked number is =
        let there : IsAmong ranked.all number = Retains-among kept.keeps number is in
        let ends = ranked.ends number there in
        let less : number < length edges = ranked.below number there in
        elim (mark_cases marks number (omega (arith, spanning.count))) [
          | inl marked ↦ absurd (marked_dropped number ends.0 ends.1 marked (joins_forth ends.2) is)
          | inr unmarked ↦ unmarked
        ]

    pub IsSpanning-AreWitnesses : AreWitnesses edges weights marks
    IsSpanning-AreWitnesses = record { count = spanning.count; marked = marked_witness; unmarked = spanning.chosen }

    pub IsSpanning-CutsCycles : CutsCycles edges marks
    IsSpanning-CutsCycles = record { leaving = leaving_marked; no_cycle = HasNoCycle-within unmarked_kept kept_acyclic }

    -- the inner edges off a set that cuts all cycles are a forest of the ranked edges
    off_forest : (other : List Bool) → length other ≡ length edges → CutsCycles edges other → IsForest (Joins edges) ranked.all (unmarked_from 0 other)
    off_forest other count cuts = record {
      within = λ edge is. off_ranked edge (unmarked_list other edge is);
      once = unmarked_once 0 other;
      no_cycle = HasNoCycle-within (λ edge is. unmarked_list other edge is) cuts.no_cycle;
    }
      where
        off_ranked : (edge : ℕ) → slice_get other edge ≡ Some false → IsAmong ranked.all edge
        off_ranked edge is = elim (edge_kind edges edge) [
          | inner from to within leads ↦ ranked.inner edge from to within leads
          | leaving within out ↦ absurd (both_marks other edge (cuts.leaving edge out) is)
          | missing past none ↦ absurd (let within = slice_get_within other edge false is in omega (arith, count))
        ]

    pub IsSpanning-HaveLeastWeight : length weights ≡ length edges → HaveLeastWeight edges weights marks
    IsSpanning-HaveLeastWeight weighed other count cuts =
        let best = Retains-best (Joins-IsUndirected edges) (Joins-IsReadable edges) (slice_index weights) kept.keeps (AreRanked-BestLast weights ranked.all ranked.ranked) (unmarked_from 0 other) (off_forest other count cuts) in
        let off = fewer_weigh (slice_index weights) kept.kept (unmarked_from 0 marks) (Retains-StandOnce edges (AreRanked-StandOnce weights ranked.all ranked.ranked) kept.keeps) (unmarked_once 0 marks)
        (λ edge is. list_unmarked marks edge (kept_unmarked edge is)) in
        omega (arith, best, off, parts_of_all weights marks (weighed ∙ sym spanning.count), parts_of_all weights other (weighed ∙ sym count))

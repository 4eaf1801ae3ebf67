-- The first edge that closes a cycle, by fronts of the edges that have one and that have none.
use Rattle.std.proofs.Common.{◌≡◌, inl, inr, ℕ, zero, suc, ◌+◌, ◌<◌, ◌≤◌, Bool, false, List, [], ◌∷◌, take, Option, Some, None, refl, sym, ap, subst, ◌∙◌, arith}
use Rattle.std.specs.Prelude.{replicate, slice_get}
use Rattle.std.specs.List.{AllByRecursion}
use Rattle.std.specs.Option.{option_map}
use Rattle.std.proofs.lemmas.Bool.{cases_eq}
use Rattle.std.proofs.lemmas.List.{length-take}
use Rattle.std.proofs.lemmas.Option.{some_pair_parts, same_Some}
use Rattle.flow_graph.specs.declared.edge.Edge.{Edge}
use Rattle.graph_paths.specs.Paths.{Path, here, over}
use Rattle.graph_paths.specs.Forests.{HasNoCycle, IsAmong, ClosesNone, StandOnce}
use Rattle.graph_paths.proofs.LawsOfPaths.{Closes-wider}
use Rattle.graph_paths.proofs.LawsOfForests.{HasNoCycle-within, ClosesNone-HasNoCycle, HasNoCycle-ClosesNone}
use Rattle.flow_tree.specs.WitnessEdges.{ends_of, LeavesCode, Joins, joins_forth, joins_back, IsUnmarked, CutsCycles}
use Rattle.flow_tree.proofs.LawsOfJoins.{Joins-IsUndirected, Closes-decides, joins_within}
use Rattle.schema_form.specs.FreeEdges.{ClosesEarlier, IsFirstToClose}
use Rattle.schema_form.specs.Inner.Inners.{IsInner}

-- the numbers below a number, the last one first
abbrev below : ℕ → List ℕ
below zero = []
below (suc n) = n ∷ below n

below_among : (n k : ℕ) → k < n → IsAmong (below n) k
below_among zero k less = absurd (omega arith)
below_among (suc n) k less = elim (cases_eq k n) [ inl same ↦ inl same | inr differ ↦ inr (below_among n k (omega (arith, differ))) ]

among_below : (n k : ℕ) → IsAmong (below n) k → k < n
among_below zero k is = absurd is
among_below (suc n) k (inl same) = omega arith
among_below (suc n) k (inr is) = let less = among_below n k is in omega arith

below_once : (n : ℕ) → StandOnce (below n)
below_once zero = tt
below_once (suc n) = (λ is. let less = among_below n n is in absurd (omega arith), below_once n)

module _ (edges : List Edge) where
  abbrev FrontIsForest : ℕ → Type 0
  FrontIsForest count = HasNoCycle (Joins edges) (λ number. number < count)

  pub no_edge : FrontIsForest 0
  no_edge edge less closes = absurd (omega arith)

  -- the edge behind a front without a cycle closes one where the front with it has one
  first_closes : (count : ℕ) → FrontIsForest count → (FrontIsForest (suc count) → ⊥) → ClosesEarlier edges count
  first_closes count forest cycle = elim (Closes-decides edges (below count) count) [
    | inl closes ↦ Closes-wider (among_below count) count closes
    | inr free ↦
        let before : HasNoCycle (Joins edges) (IsAmong (below count)) = HasNoCycle-within (among_below count) forest in
        let list : ClosesNone (Joins edges) (below (suc count)) = (free, HasNoCycle-ClosesNone (Joins-IsUndirected edges) (below count) (below_once count) before) in
        let all : HasNoCycle (Joins edges) (IsAmong (below (suc count))) = ClosesNone-HasNoCycle (Joins-IsUndirected edges) (below (suc count)) list in
        absurd (cycle (HasNoCycle-within (below_among (suc count)) all))
  ]

  pub none_closes : (count earlier : ℕ) → FrontIsForest count → earlier < count → ClosesEarlier edges earlier → ⊥
  none_closes count earlier forest less closes =
      forest earlier less (Closes-wider (λ other before. (omega arith, λ same. absurd (omega arith))) earlier closes)

  pub first_found : (without with_one : ℕ) → without < with_one → with_one ≤ without + 1 → FrontIsForest without → (FrontIsForest with_one → ⊥) → IsFirstToClose edges without
  first_found without with_one less most forest cycle =
      let next : with_one ≡ suc without = omega arith in
      record {
        closes = first_closes without forest (subst (λ (n : ℕ). FrontIsForest n → ⊥) next cycle);
        none_before = λ earlier before. none_closes without earlier forest before;
      }

-- a path over another relation of joining
path_between : {E B : Type 0} {joins others : E → B → B → Type 0} {allowed more : E → Type 0}
    → ((edge : E) (one two : B) → allowed edge → joins edge one two → more edge × others edge one two) → {one two : B} → Path joins allowed one two → Path others more one two
path_between each here = here
path_between each (over {from} {mid} edge is joined rest) =
    let step = each edge from mid is joined in over edge step.0 step.1 (path_between each rest)

slice_get_take : {X : Type 0} (count : ℕ) (xs : List X) (k : ℕ) → k < count → slice_get (take count xs) k ≡ slice_get xs k
slice_get_take zero xs k less = absurd (omega arith)
slice_get_take (suc count) [] k less = refl
slice_get_take (suc count) (x ∷ xs) zero less = refl
slice_get_take (suc count) (x ∷ xs) (suc k) less = slice_get_take count xs k (omega arith)

slice_get_replicate : {X : Type 0} (count : ℕ) (x : X) (k : ℕ) → k < count → slice_get (replicate count x) k ≡ Some x
slice_get_replicate zero x k less = absurd (omega arith)
slice_get_replicate (suc count) x zero less = refl
slice_get_replicate (suc count) x (suc k) less = slice_get_replicate count x k (omega arith)

module _ (edges : List Edge) (count : ℕ) where
  same_ends : (number : ℕ) → number < count → ends_of (take count edges) number ≡ ends_of edges number
  same_ends number less = ap (option_map (λ (edge : Edge). (edge.source, edge.to))) (slice_get_take count edges number less)

  front_within : (number one other : ℕ) → Joins (take count edges) number one other → number < count
  front_within number one other joined =
      let within = joins_within (take count edges) number one other joined in omega (arith, within, length-take count edges)

  -- edges of a front join what they join among all
  from_front : (number one other : ℕ) → number < count → Joins (take count edges) number one other → Joins edges number one other
  from_front number one other less (joins_forth leads) = joins_forth (sym (same_ends number less) ∙ leads)
  from_front number one other less (joins_back leads) = joins_back (sym (same_ends number less) ∙ leads)

  to_front : (number one other : ℕ) → number < count → Joins edges number one other → Joins (take count edges) number one other
  to_front number one other less (joins_forth leads) = joins_forth (same_ends number less ∙ leads)
  to_front number one other less (joins_back leads) = joins_back (same_ends number less ∙ leads)

  module _ (marks : List Bool) (none : marks ≡ replicate count false) where
    unmarked : (number : ℕ) → number < count → IsUnmarked marks number
    unmarked number less = ap (λ (list : List Bool). slice_get list number) none ∙ slice_get_replicate count false number less

    pub forest_from_cuts : CutsCycles (take count edges) marks → HasNoCycle (Joins edges) (λ number. number < count)
    forest_from_cuts cuts edge less closes = cuts.no_cycle edge (unmarked edge less) (record {
      from = closes.from;
      to = closes.to;
      ends = to_front edge closes.from closes.to less closes.ends;
      path = path_between (λ other one two is joined. ((unmarked other is.0, is.1), to_front other one two is.0 joined)) closes.path;
    })

    pub cuts_from_forest : ((number : ℕ) → LeavesCode (take count edges) number → ⊥) → HasNoCycle (Joins edges) (λ number. number < count) → CutsCycles (take count edges) marks
    cuts_from_forest inner forest = record {
      leaving = λ number leaves. absurd (inner number leaves);
      no_cycle = λ edge is closes.
          let less = front_within edge closes.from closes.to closes.ends in
          forest edge less (record {
            from = closes.from;
            to = closes.to;
            ends = from_front edge closes.from closes.to less closes.ends;
            path = path_between (λ other one two is_other joined.
                let before = front_within other one two joined in ((before, is_other.1), from_front other one two before joined)) closes.path;
          });
    }

-- what inner edges join is below the number, and they don't leave
module _ (count : ℕ) where
  ends_inside : (edge : Edge) (from : ℕ) (to : Option ℕ) → IsInner count edge → ◌≡◌ {A = Option (ℕ × Option ℕ)} (Some (edge.source, edge.to)) (Some (from, to)) → (from < count) × ((target : ℕ) × (to ≡ Some target) × (target < count))
  ends_inside edge from to inner same =
      let parts = some_pair_parts edge.source from edge.to to same in
      (let within = inner.source in omega (arith, parts.0, within), (inner.target, sym parts.1 ∙ inner.to, inner.within))

  inner_ends : (edges : List Edge) (number from : ℕ) (to : Option ℕ) → AllByRecursion (IsInner count) edges → ends_of edges number ≡ Some (from, to) → (from < count) × ((target : ℕ) × (to ≡ Some target) × (target < count))
  inner_ends [] number from to all is = absurd (cc is)
  inner_ends (edge ∷ edges) zero from to all is = ends_inside edge from to all.0 is
  inner_ends (edge ∷ edges) (suc number) from to all is = inner_ends edges number from to all.1 is

  pub none_leaves : (edges : List Edge) → AllByRecursion (IsInner count) edges → (number : ℕ) → LeavesCode edges number → ⊥
  none_leaves edges all number leaves = let found = (inner_ends edges number leaves.from None all leaves.ends).1.1 in absurd (cc found)

  pub joins_inside : (edges : List Edge) → AllByRecursion (IsInner count) edges → (number one other : ℕ) → Joins edges number one other → one < count
  joins_inside edges all number one other (joins_forth leads) = (inner_ends edges number one (Some other) all leads).0
  joins_inside edges all number one other (joins_back leads) =
      let found = (inner_ends edges number other (Some one) all leads).1 in
      let same = same_Some one found.0 found.1 in
      let within = found.2 in
      omega (arith, same, within)

pub all_take : {X : Type 0} (P : X → Type 0) (count : ℕ) (xs : List X) → AllByRecursion P xs → AllByRecursion P (take count xs)
all_take P zero xs all = tt
all_take P (suc count) [] all = tt
all_take P (suc count) (x ∷ xs) all = (all.0, all_take P count xs all.1)

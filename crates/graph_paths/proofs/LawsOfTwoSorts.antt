-- Edges of two sorts have no cycle, where those of one sort have none, and no edge of the other sort closes over all other edges. Paths
-- from places to places are paths from parts to parts, where edges join what the parts join. No code, and no edges of code.
use Rattle.std.proofs.Common.{◌≢◌, ◌⊎◌, inl, inr, ℕ, zero, suc, ◌<◌, List, [], ◌∷◌, ◌++◌, refl, sym, subst, arith}
use Rattle.std.proofs.lemmas.Bool.{cases_eq}
use Rattle.graph_paths.specs.Paths.{Path, here, over, Closes, IsUndirected}
use Rattle.graph_paths.specs.Forests.{HasNoCycle, IsAmong, ClosesNone, StandOnce}
use Rattle.graph_paths.proofs.LawsOfPaths.{Path-append, Closes-wider}
use Rattle.graph_paths.proofs.LawsOfForests.{HasNoCycle-within, ClosesNone-HasNoCycle, HasNoCycle-ClosesNone}
use Rattle.graph_paths.proofs.LawsOfMembers.{among_front, among_end, among_either}

-- a list by two sorts of its elements
record Sorted {E : Type 0} (one other : E → Type 0) (list : List E) : Type 0 where
  ones : List E
  others : List E
  all : (edge : E) → IsAmong list edge → IsAmong ones edge ⊎ IsAmong others edge
  back_one : (edge : E) → IsAmong ones edge → IsAmong list edge
  back_other : (edge : E) → IsAmong others edge → IsAmong list edge
  each_one : (edge : E) → IsAmong ones edge → one edge
  each_other : (edge : E) → IsAmong others edge → other edge
  once_ones : StandOnce ones
  once_others : StandOnce others

module _ {E : Type 0} {one other : E → Type 0} where
  with_one : (edge : E) (list : List E) → one edge → (IsAmong list edge → ⊥) → Sorted one other list → Sorted one other (edge ∷ list)
  with_one edge list is new sorted = record {
    ones = edge ∷ sorted.ones;
    others = sorted.others;
    all = λ e among. elim among [
      | inl same ↦ inl (inl same)
      | inr behind ↦ elim (sorted.all e behind) [ inl first ↦ inl (inr first) | inr second ↦ inr second ]
    ];
    back_one = λ e among. elim among [ inl same ↦ inl same | inr behind ↦ inr (sorted.back_one e behind) ];
    back_other = λ e among. inr (sorted.back_other e among);
    each_one = λ e among. elim among [ inl same ↦ subst one (sym same) is | inr behind ↦ sorted.each_one e behind ];
    each_other = sorted.each_other;
    once_ones = (λ again. new (sorted.back_one edge again), sorted.once_ones);
    once_others = sorted.once_others;
  }

  with_other : (edge : E) (list : List E) → other edge → (IsAmong list edge → ⊥) → Sorted one other list → Sorted one other (edge ∷ list)
  with_other edge list is new sorted = record {
    ones = sorted.ones;
    others = edge ∷ sorted.others;
    all = λ e among. elim among [
      | inl same ↦ inr (inl same)
      | inr behind ↦ elim (sorted.all e behind) [ inl first ↦ inl first | inr second ↦ inr (inr second) ]
    ];
    back_one = λ e among. inr (sorted.back_one e among);
    back_other = λ e among. elim among [ inl same ↦ inl same | inr behind ↦ inr (sorted.back_other e behind) ];
    each_one = sorted.each_one;
    each_other = λ e among. elim among [ inl same ↦ subst other (sym same) is | inr behind ↦ sorted.each_other e behind ];
    once_ones = sorted.once_ones;
    once_others = (λ again. new (sorted.back_other edge again), sorted.once_others);
  }

  sort : (list : List E) → StandOnce list → ((edge : E) → IsAmong list edge → one edge ⊎ other edge) → Sorted one other list
  sort [] once either = record {
    ones = [];
    others = [];
    all = λ e among. absurd among;
    back_one = λ e among. absurd among;
    back_other = λ e among. absurd among;
    each_one = λ e among. absurd among;
    each_other = λ e among. absurd among;
    once_ones = tt;
    once_others = tt;
  }
  sort (edge ∷ list) once either =
      let rest = sort list once.1 (λ e among. either e (inr among)) in
      elim (either edge (inl refl)) [
        | inl is ↦ with_one edge list is once.0 rest
        | inr is ↦ with_other edge list is once.0 rest
      ]

module _ {E B : Type 0} {joins : E → B → B → Type 0} (undirected : IsUndirected joins) (one other : E → Type 0)
    (apart : (edge : E) → one edge → other edge → ⊥)
    (crosses : (edge : E) → one edge → Closes joins (λ (e : E). e ≢ edge) edge → ⊥)
    (inner : HasNoCycle joins other) where
  -- the edges of the first sort stand before those of the second
  in_order : (ones others : List E) → StandOnce ones → StandOnce others → ((edge : E) → IsAmong ones edge → one edge) → ((edge : E) → IsAmong others edge → other edge)
      → ClosesNone joins (ones ++ others)
  in_order [] others once once_others each each_other = HasNoCycle-ClosesNone undirected others once_others (HasNoCycle-within each_other inner)
  in_order (edge ∷ ones) others once once_others each each_other = (
    λ closes. crosses edge (each edge (inl refl)) (Closes-wider
        (λ e among same. elim (among_either ones others e among) [
          | inl again ↦ once.0 (subst (IsAmong ones) same again)
          | inr far ↦ apart edge (each edge (inl refl)) (subst other same (each_other e far))
        ])
        edge closes),
    in_order ones others once.1 once_others (λ e among. each e (inr among)) each_other,
  )

  pub two_sorts : (list : List E) → StandOnce list → ((edge : E) → IsAmong list edge → one edge ⊎ other edge) → HasNoCycle joins (IsAmong list)
  two_sorts list once either =
      let sorted = sort list once either in
      HasNoCycle-within
      (λ edge among. elim (sorted.all edge among) [
        | inl first ↦ among_front sorted.ones sorted.others edge first
        | inr second ↦ among_end sorted.ones sorted.others edge second
      ])
      (ClosesNone-HasNoCycle undirected (sorted.ones ++ sorted.others)
      (in_order sorted.ones sorted.others sorted.once_ones sorted.once_others sorted.each_one sorted.each_other))

-- the numbers below a number
abbrev pub numbers_below : ℕ → List ℕ
numbers_below zero = []
numbers_below (suc n) = n ∷ numbers_below n

pub among_numbers : (n k : ℕ) → k < n → IsAmong (numbers_below n) k
among_numbers zero k less = absurd (omega arith)
among_numbers (suc n) k less = elim (cases_eq k n) [ inl same ↦ inl same | inr differ ↦ inr (among_numbers n k (omega (arith, differ))) ]

pub numbers_among : (n k : ℕ) → IsAmong (numbers_below n) k → k < n
numbers_among zero k is = absurd is
numbers_among (suc n) k (inl same) = omega arith
numbers_among (suc n) k (inr is) = let less = numbers_among n k is in omega arith

pub numbers_once : (n : ℕ) → StandOnce (numbers_below n)
numbers_once zero = tt
numbers_once (suc n) = (λ is. let less = numbers_among n n is in absurd (omega arith), numbers_once n)

-- a path over parts
pub path_over_parts : {E B F C : Type 0} {joins : E → B → B → Type 0} {allowed : E → Type 0} {meets : F → C → C → Type 0} {may : F → Type 0} (part : B → C)
    → ((edge : E) (one two : B) → allowed edge → joins edge one two → Path meets may (part one) (part two))
    → {one two : B} → Path joins allowed one two → Path meets may (part one) (part two)
path_over_parts part each here = here
path_over_parts part each (over {from} {mid} edge is joined rest) = Path-append (each edge from mid is joined) (path_over_parts part each rest)

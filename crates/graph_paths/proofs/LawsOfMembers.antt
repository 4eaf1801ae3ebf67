-- What is among a list, and among two of which one stands behind the other. No code.
use Rattle.std.proofs.Common.{◌≡◌, ◌⊎◌, inl, inr, ℕ, zero, suc, List, [], ◌∷◌, ◌++◌, Some, sym}
use Rattle.std.specs.Prelude.{slice_get}
use Rattle.std.proofs.lemmas.Option.{none-some, same_Some}
use Rattle.graph_paths.specs.Forests.{IsAmong}

pub among_front : {X : Type 0} (xs ys : List X) (x : X) → IsAmong xs x → IsAmong (xs ++ ys) x
among_front [] ys x is = absurd is
among_front (first ∷ xs) ys x (inl same) = inl same
among_front (first ∷ xs) ys x (inr behind) = inr (among_front xs ys x behind)

pub among_end : {X : Type 0} (xs ys : List X) (x : X) → IsAmong ys x → IsAmong (xs ++ ys) x
among_end [] ys x is = is
among_end (first ∷ xs) ys x is = inr (among_end xs ys x is)

pub among_either : {X : Type 0} (xs ys : List X) (x : X) → IsAmong (xs ++ ys) x → IsAmong xs x ⊎ IsAmong ys x
among_either [] ys x is = inr is
among_either (first ∷ xs) ys x (inl same) = inl (inl same)
among_either (first ∷ xs) ys x (inr behind) = elim (among_either xs ys x behind) [ inl front ↦ inl (inr front) | inr end ↦ inr end ]

-- what stands at a place of a list is among it
pub among_place : {X : Type 0} (xs : List X) (place : ℕ) (x : X) → slice_get xs place ≡ Some x → IsAmong xs x
among_place [] place x is = absurd (none-some x is)
among_place (first ∷ xs) zero x is = inl (sym (same_Some first x is))
among_place (first ∷ xs) (suc place) x is = inr (among_place xs place x is)

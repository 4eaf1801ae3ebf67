-- Elements of lists by their places.
use Rattle.std.proofs.Common.{◌≡◌, ◌⊎◌, inl, inr, ℕ, zero, suc, List, [], ◌∷◌, ◌++◌, length, Some, refl, sym, ap}
use Rattle.std.specs.Prelude.{slice_get}
use Rattle.std.proofs.lemmas.Option.{none-some, same_Some}
use Rattle.graph_paths.specs.Forests.{IsAmong}

-- a list with one more at its end
pub get_front : {X : Type 0} (xs : List X) (y : X) (at : ℕ) (x : X) → slice_get xs at ≡ Some x → slice_get (xs ++ y ∷ []) at ≡ Some x
get_front [] y at x is = absurd (none-some x is)
get_front (first ∷ rest) y zero x is = is
get_front (first ∷ rest) y (suc at) x is = get_front rest y at x is

pub get_end : {X : Type 0} (xs : List X) (y : X) → slice_get (xs ++ y ∷ []) (length xs) ≡ Some y
get_end [] y = refl
get_end (first ∷ rest) y = get_end rest y

pub get_either : {X : Type 0} (xs : List X) (y : X) (at : ℕ) (x : X) → slice_get (xs ++ y ∷ []) at ≡ Some x → (slice_get xs at ≡ Some x) ⊎ ((at ≡ length xs) × (x ≡ y))
get_either [] y zero x is = inr (refl, sym (same_Some y x is))
get_either [] y (suc at) x is = absurd (none-some x is)
get_either (first ∷ rest) y zero x is = inl is
get_either (first ∷ rest) y (suc at) x is = elim (get_either rest y at x is) [ inl there ↦ inl there | inr end ↦ inr (ap suc end.0, end.1) ]

pub place_of : {X : Type 0} (xs : List X) (x : X) → IsAmong xs x → (place : ℕ) × (slice_get xs place ≡ Some x)
place_of [] x is = absurd is
place_of (first ∷ xs) x (inl same) = (zero, ap Some (sym same))
place_of (first ∷ xs) x (inr behind) = let found = place_of xs x behind in (suc found.0, found.1)

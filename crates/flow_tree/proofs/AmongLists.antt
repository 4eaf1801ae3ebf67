-- What is among a list.
use Rattle.std.proofs.Common.{◌≡◌, ◌⊎◌, inl, inr, ℕ, zero, suc, ◌<◌, Bool, true, false, List, [], ◌∷◌, length, get_or, map, Some, None, refl, sym, ap, subst, arith}
use Rattle.std.specs.Prelude.{slice_get}
use Rattle.std.specs.List.{AllByRecursion, Contains}
use Rattle.std.specs.List.Sorted.{IsPermutation}
use Rattle.std.proofs.lemmas.List.Sorted.{IsPermutation-sym, Contains-permutation}
use Rattle.graph_paths.specs.Forests.{IsAmong}

pub at_place : {X : Type 0} (xs : List X) (place : ℕ) (d : X) → place < length xs → IsAmong xs (get_or xs place d)
at_place [] place d within = absurd (omega arith)
at_place (x ∷ xs) zero d within = inl refl
at_place (x ∷ xs) (suc place) d within = inr (at_place xs place d (omega arith))

contained_among : {X : Type 0} (xs : List X) (x : X) → Contains xs x → IsAmong xs x
contained_among xs x (place, within, is) = subst (IsAmong xs) is (at_place xs place x within)

among_contained : {X : Type 0} (xs : List X) (x : X) → IsAmong xs x → Contains xs x
among_contained [] x is = absurd is
among_contained (first ∷ xs) x (inl same) = (0, omega arith, sym same)
among_contained (first ∷ xs) x (inr behind) = let later = among_contained xs x behind in (suc later.0, omega (arith, later.1), later.2)

pub among_permuted : {X : Type 0} (xs ys : List X) (x : X) → IsPermutation xs ys → IsAmong xs x → IsAmong ys x
among_permuted xs ys x permuted is = contained_among ys x (Contains-permutation xs ys x permuted (among_contained xs x is))

pub among_back : {X : Type 0} (xs ys : List X) (x : X) → IsPermutation xs ys → IsAmong ys x → IsAmong xs x
among_back xs ys x permuted is = among_permuted ys xs x (IsPermutation-sym xs ys permuted) is

pub among_map : {X Y : Type 0} (f : X → Y) (xs : List X) (x : X) → IsAmong xs x → IsAmong (map f xs) (f x)
among_map f [] x is = absurd is
among_map f (first ∷ xs) x (inl same) = inl (ap f same)
among_map f (first ∷ xs) x (inr behind) = inr (among_map f xs x behind)

pub from_map : {X Y : Type 0} (f : X → Y) (xs : List X) (y : Y) → IsAmong (map f xs) y → (x : X) × IsAmong xs x × (y ≡ f x)
from_map f [] y is = absurd is
from_map f (first ∷ xs) y (inl same) = (first, inl refl, same)
from_map f (first ∷ xs) y (inr behind) = let found = from_map f xs y behind in (found.0, inr found.1, found.2)

pub all_among : {X : Type 0} (P : X → Type 0) (xs : List X) (x : X) → AllByRecursion P xs → IsAmong xs x → P x
all_among P [] x all is = absurd is
all_among P (first ∷ xs) x all (inl same) = subst P (sym same) all.0
all_among P (first ∷ xs) x all (inr behind) = all_among P xs x all.1 behind

-- whether a place is marked
pub is_set : (marks : List Bool) (place : ℕ) → (slice_get marks place ≡ Some true) ⊎ (slice_get marks place ≡ Some true → ⊥)
is_set [] place = inr (λ is. let same : None ≡ Some true = is in absurd (cc))
is_set (true ∷ marks) zero = inl refl
is_set (false ∷ marks) zero = inr (λ is. let same : Some false ≡ Some true = is in absurd (cc))
is_set (mark ∷ marks) (suc place) = is_set marks place

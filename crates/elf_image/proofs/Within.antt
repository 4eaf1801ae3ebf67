-- What is in lists that are made of others.
use Rattle.std.proofs.Common.{◌≡◌, ℕ, zero, suc, ◌+◌, ◌<◌, ◌≤◌, Bool, true, List, [], ◌∷◌, refl, inl, inr, arith}
use Rattle.std.specs.List.{Contains, filter, flat_map, range_with_len}
use Rattle.std.proofs.lemmas.List.Elements.{All-contains, All-contains_itself, All-filter, Contains-append_cases, filter_passes}

-- the element that a kept element was, and the test that it passes
pub Contains-from_filter : {X : Type 0} (p : X → Bool) (xs : List X) (x : X) → Contains (filter p xs) x → Contains xs x
Contains-from_filter p xs x within = All-contains (Contains xs) (filter p xs) x (All-filter p (Contains xs) xs (All-contains_itself xs)) within

pub passes-from_filter : {X : Type 0} (p : X → Bool) (xs : List X) (x : X) → Contains (filter p xs) x → p x ≡ true
passes-from_filter p xs x within = All-contains (λ y. p y ≡ true) (filter p xs) x (filter_passes p xs) within

-- the element that has it
pub Contains-from_flat_map : {X A : Type 0} (f : X → List A) (xs : List X) (a : A) → Contains (flat_map f xs) a → (x : X) × (Contains xs x × Contains (f x) a)
Contains-from_flat_map f [] a (k, inside, same) = absurd (omega arith)
Contains-from_flat_map f (x ∷ xs) a within = elim (Contains-append_cases (f x) (flat_map f xs) a within) [
  | inl here ↦ (x, ((0, omega arith, refl), here))
  | inr there ↦
      let found = Contains-from_flat_map f xs a there in
      let (k, inside, same) = found.1.0 in
      (found.0, ((suc k, omega arith, same), found.1.1))
]

-- a number of a range
pub Contains-from_range : (from count number : ℕ) → Contains (range_with_len from count) number → (from ≤ number) × (number < from + count)
Contains-from_range from zero number (k, inside, same) = absurd (omega arith)
Contains-from_range from (suc count) number (zero, inside, same) = (omega arith, omega arith)
Contains-from_range from (suc count) number (suc k, inside, same) =
    let (above, below) = Contains-from_range (from + 1) count number (k, omega arith, same) in
    (omega arith, omega arith)

-- What a search for the first element that passes a test says.
use Rattle.std.proofs.Common.{◌≡◌, suc, Bool, true, false, cond, List, [], ◌∷◌, get_or, None, Some, refl, sym, ap, ◌∙◌, inl, inr, subst, arith}
use Rattle.std.specs.Prelude.{is_some}
use Rattle.std.specs.List.{All, Contains, find, list_any}
use Rattle.std.proofs.lemmas.Bool.{cases_Bool}
use Rattle.std.proofs.lemmas.List.Elements.{All-nil, All-cons}
use Rattle.std.proofs.lemmas.List.Folds.{list_any_at}

-- where none is found none passes
pub none_passes : {X : Type 0} (p : X → Bool) (xs : List X) → find p xs ≡ None → All (λ x. p x ≡ false) xs
none_passes p [] none = All-nil (λ x. p x ≡ false)
none_passes p (x ∷ xs) none = elim (cases_Bool (p x)) [
  | inl passes ↦ absurd (some_found (ap (λ t. cond t (Some x) (find p xs)) (sym passes) ∙ none))
  | inr fails ↦ All-cons (λ x. p x ≡ false) x xs fails (none_passes p xs (ap (λ t. cond t (Some x) (find p xs)) (sym fails) ∙ none))
]
  where
    some_found : {X : Type 0} {x : X} → Some x ≡ None → ⊥
    some_found is = absurd (cc is)

pub none_any : {X : Type 0} (p : X → Bool) (xs : List X) → list_any p xs ≡ false → All (λ x. p x ≡ false) xs
none_any p xs none k d within = elim (cases_Bool (p (get_or xs k d))) [
  | inl passes ↦ let any : list_any p xs ≡ true = list_any_at p xs k d within passes in absurd (cc)
  | inr fails ↦ fails
]

-- what is found is there and passes
pub found : {X : Type 0} (p : X → Bool) (xs : List X) (x : X) → find p xs ≡ Some x → Contains xs x × (p x ≡ true)
found p [] x is = absurd (cc is)
found p (y ∷ ys) x is = elim (cases_Bool (p y)) [
  | inl passes ↦
      let first : Some y ≡ Some x = ap (λ t. cond t (Some y) (find p ys)) (sym passes) ∙ is in
      let same : y ≡ x = cc in
      ((0, omega arith, same), subst (λ z. p z ≡ true) same passes)
  | inr fails ↦
      let later = found p ys x (ap (λ t. cond t (Some y) (find p ys)) (sym fails) ∙ is) in
      ((suc later.0.0, omega (arith, later.0.1), later.0.2), later.1)
]

pub is_some-find : {X : Type 0} (p : X → Bool) (xs : List X) → is_some (find p xs) ≡ list_any p xs
is_some-find p [] = refl
is_some-find p (x ∷ xs) = elim (cases_Bool (p x)) [
  | inl passes ↦ rw passes
  | inr fails ↦ rw fails (is_some-find p xs)
]

-- The first element that passes a test.
use Rattle.std.proofs.Common.{◌≡◌, ℕ, ◌+◌, ◌<◌, ◌≤◌, Bool, true, false, cond, ltb, List, length, get_or, Some, None, refl, sym, ap, ◌∙◌, inl, inr, arith}
use Rattle.std.specs.List.{position, position_or_len}
use Rattle.std.proofs.lemmas.Bool.{cases_lt, lt-ltb, le-ltb, ltb-false}
use Rattle.std.proofs.lemmas.List.{get_or_default}
use Rattle.std.proofs.lemmas.List.Sums.{position_or_len_is, fails_before_first}

-- none of the first so many passes
abbrev pub FailsBefore : {X : Type 0} → (X → Bool) → List X → ℕ → Type 0
FailsBefore {X} p xs i = (k : ℕ) (d : X) → k < i → p (get_or xs k d) ≡ false

pub found_at : {X : Type 0} (p : X → Bool) (xs : List X) (i : ℕ) (d : X) → i < length xs → FailsBefore p xs i → p (get_or xs i d) ≡ true → Some i ≡ position p xs
found_at p xs i d inside before here =
    let first : position_or_len p xs ≡ i = position_or_len_is p xs i d (omega arith) (λ k below. before k d below) (λ _. here) in
    let within : ltb (position_or_len p xs) (length xs) ≡ true = lt-ltb (position_or_len p xs) (length xs) (omega arith) in
    sym (ap (λ b. cond b (Some (position_or_len p xs)) None) within ∙ ap Some first)

pub found_never : {X : Type 0} (p : X → Bool) (xs : List X) (i : ℕ) (d : X) → length xs ≤ i → FailsBefore p xs i → None ≡ position p xs
found_never p xs i d all before =
    let first : position_or_len p xs ≡ length xs = position_or_len_is p xs (length xs) d (omega arith) (λ k below. before k d (omega arith)) (λ below. absurd (omega arith)) in
    let past : ltb (position_or_len p xs) (length xs) ≡ false = le-ltb (position_or_len p xs) (length xs) (omega arith) in
    sym (ap (λ b. cond b (Some (position_or_len p xs)) None) past)

pub fails_one_more : {X : Type 0} (p : X → Bool) (xs : List X) (i : ℕ) (d : X) → i < length xs → FailsBefore p xs i → p (get_or xs i d) ≡ false → FailsBefore p xs (i + 1)
fails_one_more p xs i d inside before here = λ k e below. elim (cases_lt k i) [
  | inl less ↦ before k e less
  | inr not_less ↦
      let same : k ≡ i = omega arith in
      ap (λ n. p (get_or xs n e)) same ∙ ap p (get_or_default xs i e d inside) ∙ here
]

not_some : {X : Type 0} (test : Bool) (x : X) → cond test (Some x) None ≡ None → test ≡ false
not_some true x is = absurd (cc is)
not_some false x is = refl

pub fails_each : {X : Type 0} (p : X → Bool) (xs : List X) → position p xs ≡ None → FailsBefore p xs (length xs)
fails_each p xs none = λ k d inside.
    let past : length xs ≤ position_or_len p xs =
    ltb-false (position_or_len p xs) (length xs) (not_some (ltb (position_or_len p xs) (length xs)) (position_or_len p xs) none)
    in
    fails_before_first p xs k d (omega arith)

-- Counting in lists in order.
use Rattle.std.proofs.Common.{◌≡◌, ℕ, zero, suc, ◌<◌, ◌≤◌, Bool, true, false, cond, List, [], ◌∷◌, length, get_or, refl, ◌∙◌, arith}
use Rattle.std.specs.Prelude.{count_by}
use Rattle.std.specs.List.Sorted.{IsPartitionPoint}
use Rattle.std.proofs.lemmas.List.Sums.{sum_by-cons}

none_pass : {X : Type 0} (p : X → Bool) (xs : List X) → ((k : ℕ) (d : X) → 0 ≤ k → k < length xs → p (get_or xs k d) ≡ false) → count_by p xs ≡ 0
none_pass p [] each = refl
none_pass p (x ∷ xs) each =
    let rest : count_by p xs ≡ 0 = none_pass p xs (λ k d above inside. each (suc k) d (omega arith) (omega arith)) in
    sum_by-cons (λ y. cond (p y) 1 0) x xs ∙ rw (each 0 x (omega arith) (omega arith)) (omega (arith, rest))

-- where a list is split into those that pass and those that don't, as many pass as stand before
pub count-IsPartitionPoint : {X : Type 0} (p : X → Bool) (xs : List X) (place : ℕ) → place ≤ length xs → IsPartitionPoint (λ y. p y ≡ true) (λ y. p y ≡ false) xs place → count_by p xs ≡ place
count-IsPartitionPoint p xs zero inside point = none_pass p xs point.1
count-IsPartitionPoint p [] (suc place) inside point = absurd (omega arith)
count-IsPartitionPoint p (x ∷ xs) (suc place) inside point =
    let first : p x ≡ true = point.0 0 x (omega arith) (omega arith) in
    let rest : count_by p xs ≡ place = count-IsPartitionPoint p xs place (omega arith)
    (λ k d above below. point.0 (suc k) d (omega arith) (omega arith), λ k d above below. point.1 (suc k) d (omega arith) (omega arith)) in
    sum_by-cons (λ y. cond (p y) 1 0) x xs ∙ rw first (omega (arith, rest))

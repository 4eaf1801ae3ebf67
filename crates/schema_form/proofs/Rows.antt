-- Rows that are made one after the other.
use Rattle.std.proofs.Common.{◌≡◌, ℕ, zero, suc, ◌+◌, ◌<◌, ◌≤◌, List, [], ◌∷◌, ◌++◌, map, Some, subst, arith}
use Rattle.std.specs.Prelude.{flat_map, slice_get}
use Rattle.std.specs.List.{AllByRecursion, range_with_len}
use Rattle.std.proofs.lemmas.List.FromFn.{map-range_with_len_more, sum_by-map-range_with_len_more}
use Rattle.rv_code.specs.declared.extent.Extent.{Extent}
use Rattle.schema_form.specs.Layout.{stretch_from, stretches_from, words_total}

module _ {X : Type 0} (P : X → Type 0) where
  pub all_append : (xs ys : List X) → AllByRecursion P xs → AllByRecursion P ys → AllByRecursion P (xs ++ ys)
  all_append [] ys first more = more
  all_append (x ∷ xs) ys first more = (first.0, all_append xs ys first.1 more)

  -- what holds of each row's elements holds of those of all rows
  pub all_rows : (f : ℕ → List X) (from count : ℕ) → ((k : ℕ) → from ≤ k → k < from + count → AllByRecursion P (f k)) → AllByRecursion P (flat_map f (range_with_len from count))
  all_rows f from zero each = tt
  all_rows f from (suc count) each =
      all_append (f from) (flat_map f (range_with_len (from + 1) count)) (each from (omega arith) (omega arith))
      (all_rows f (from + 1) count (λ k low high. each k (omega arith) (omega arith)))

  pub all_map : (f : ℕ → X) (from count : ℕ) → ((k : ℕ) → from ≤ k → k < from + count → P (f k)) → AllByRecursion P (map f (range_with_len from count))
  all_map f from zero each = tt
  all_map f from (suc count) each =
      (each from (omega arith) (omega arith), all_map f (from + 1) count (λ k low high. each k (omega arith) (omega arith)))

  pub all_at : (xs : List X) (k : ℕ) (x : X) → AllByRecursion P xs → slice_get xs k ≡ Some x → P x
  all_at [] k x all is = absurd (cc is)
  all_at (y ∷ ys) zero x all is = let same : y ≡ x = cc is in subst P same all.0
  all_at (y ∷ ys) (suc k) x all is = all_at ys k x all.1 is

-- one stretch more, and its words
pub stretches_more : (bytes : List ℕ) (number : ℕ) → stretches_from bytes (number + 1) ≡ stretches_from bytes number ++ stretch_from bytes number ∷ []
stretches_more bytes number = map-range_with_len_more (stretch_from bytes) 0 number number (omega arith)

pub words_more : (bytes : List ℕ) (number : ℕ) → words_total (stretches_from bytes (number + 1)) ≡ words_total (stretches_from bytes number) + (stretch_from bytes number).count
words_more bytes number = sum_by-map-range_with_len_more (λ (stretch : Extent). stretch.count) (stretch_from bytes) 0 number number (omega arith)

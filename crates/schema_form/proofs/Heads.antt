-- The stretches of bytes that aren't refused for them.
use Rattle.std.proofs.Common.{◌≡◌, inl, inr, ℕ, zero, suc, ◌+◌, ◌-◌, ◌<◌, ◌≤◌, ◌%◌, false, List, length, map, None, subst, arith}
use Rattle.std.specs.Prelude.{◌==◌, not, nat_le, nat_lt}
use Rattle.std.specs.List.{find, range_with_len}
use Rattle.std.proofs.lemmas.Bool.{or_parts, and_cases, not-false, ltb-false, leb-false, eqb-true, lt-ltb, both_ways}
use Rattle.rv_code.specs.declared.limits.TheConstants.{WORDS_LIMIT}
use Rattle.rv_code.specs.Addresses.{stack_start}
use Rattle.rv_code.specs.Code.{extent_end}
use Rattle.rv_code.specs.Places.{IsCodeExtent, ExtentsRise}
use Rattle.rv_code.proofs.LawsOfRows.{none_mapped, each_fails}
use Rattle.rv_code.proofs.LawsOfTests.{not_zero}
use Rattle.schema_form.specs.Layout.{stretch_offset, stretch_from, stretches_from, words_total}
use Rattle.schema_form.specs.Refusal.{meets_before, stretch_misfits, is_too_many, stretch_offends, stretch_fault, stretch_refusal}
use Rattle.schema_form.specs.Valid.{AreStretches, EndsBelowStack}
use Rattle.schema_form.proofs.Rows.{all_map}

-- what is known of a stretch that isn't refused
pub record StretchFits (bytes : List ℕ) (number : ℕ) : Type 0 where
  pub whole : stretch_offset number + 8 ≤ length bytes
  pub aligned : (stretch_from bytes number).start % 4 ≡ 0
  pub some : 0 < (stretch_from bytes number).count
  pub below : extent_end (stretch_from bytes number) ≤ stack_start
  pub behind : 0 < number → extent_end (stretch_from bytes (number - 1)) < (stretch_from bytes number).start

stands_behind : (bytes : List ℕ) (number : ℕ) → meets_before bytes number ≡ false → 0 < number → extent_end (stretch_from bytes (number - 1)) < (stretch_from bytes number).start
stands_behind bytes number is later = elim (and_cases (nat_lt 0 number) (nat_le (stretch_from bytes number).start (extent_end (stretch_from bytes (number - 1)))) is) [
  | inl first ↦ absurd (both_ways (nat_lt 0 number) first (lt-ltb 0 number later))
  | inr apart ↦ leb-false (stretch_from bytes number).start (extent_end (stretch_from bytes (number - 1))) apart
]

pub stretch_fits : (bytes : List ℕ) (number : ℕ) → stretch_misfits bytes number ≡ false → StretchFits bytes number
stretch_fits bytes number is =
    let five = or_parts _ (meets_before bytes number) is in
    let four = or_parts _ (nat_lt stack_start (extent_end (stretch_from bytes number))) five.0 in
    let three = or_parts _ ((stretch_from bytes number).count == 0) four.0 in
    let two = or_parts (nat_lt (length bytes) (stretch_offset number + 8)) (not ((stretch_from bytes number).start % 4 == 0)) three.0 in
    record {
      whole = ltb-false (length bytes) (stretch_offset number + 8) two.0;
      aligned = eqb-true ((stretch_from bytes number).start % 4) 0 (not-false ((stretch_from bytes number).start % 4 == 0) two.1);
      some = not_zero (stretch_from bytes number).count three.1;
      below = ltb-false stack_start (extent_end (stretch_from bytes number)) four.1;
      behind = stands_behind bytes number five.1;
    }

module _ (bytes : List ℕ) where
  rise : (from count : ℕ) → ((k : ℕ) → from ≤ k → k < from + count → StretchFits bytes k) → ExtentsRise (map (stretch_from bytes) (range_with_len from count))
  rise from zero each = tt
  rise from (suc zero) each = tt
  rise from (suc (suc count)) each =
      let here : from + 1 - 1 ≡ from = omega arith in
      let apart = (each (from + 1) (omega arith) (omega arith)).behind (omega arith) in (
        subst (λ k. extent_end (stretch_from bytes k) < (stretch_from bytes (from + 1)).start) here apart,
        rise (from + 1) (suc count) (λ k low high. each k (omega arith) (omega arith)),
      )

  few_words : (count : ℕ) → ((k : ℕ) → k < count → is_too_many bytes k ≡ false) → words_total (stretches_from bytes count) ≤ WORDS_LIMIT
  few_words zero each = omega arith
  few_words (suc count) each =
      let more : count + 1 ≡ suc count = omega arith in
      subst (λ k. words_total (stretches_from bytes k) ≤ WORDS_LIMIT) more (ltb-false WORDS_LIMIT (words_total (stretches_from bytes (count + 1))) (each count (omega arith)))

  each_fits : (count : ℕ) → stretch_refusal bytes count ≡ None → (k : ℕ) → k < count → (StretchFits bytes k) × (is_too_many bytes k ≡ false)
  each_fits count none k within =
      let fails = each_fails (stretch_offends bytes) count (none_mapped (stretch_fault bytes) (find (stretch_offends bytes) (range_with_len 0 count)) none) k within in
      let both = or_parts (stretch_misfits bytes k) (is_too_many bytes k) fails in
      (stretch_fits bytes k both.0, both.1)

  -- stretches that aren't refused are allowed
  pub are_stretches : (count : ℕ) → stretch_refusal bytes count ≡ None → AreStretches (stretches_from bytes count)
  are_stretches count none = record {
    extents = record {
      each = all_map IsCodeExtent (stretch_from bytes) 0 count (λ k low high. let fits = (each_fits count none k (omega arith)).0 in record { some = fits.some; aligned = fits.aligned });
      rise = rise 0 count (λ k low high. (each_fits count none k (omega arith)).0);
    };
    below = all_map EndsBelowStack (stretch_from bytes) 0 count (λ k low high. (each_fits count none k (omega arith)).0.below);
    few = few_words count (λ k within. (each_fits count none k within).1);
  }

  -- and whole
  pub are_whole : (count : ℕ) → 12 ≤ length bytes → stretch_refusal bytes count ≡ None → stretch_offset count ≤ length bytes
  are_whole zero header none = omega arith
  are_whole (suc count) header none = let whole = (each_fits (suc count) none count (omega arith)).0.whole in omega (arith, whole)

-- Which buffers belong to the tracer as a whole.
use Rattle.std.proofs.Common.{◌≡◌, ℕ, zero, suc, ◌+◌, ◌-◌, ◌^◌, ◌<◌, ◌≤◌, Bool, true, false, refl, sym, ap, ◌∙◌, inl, inr, arith}
use Rattle.std.specs.Prelude.{◌&&◌, nat_le, nat_lt}
use Rattle.std.proofs.lemmas.Bool.{cases_Bool}
use Rattle.std.specs.List.{list_all}
use Rattle.std.proofs.lemmas.Bool.Decides.{nat_tests}
use Rattle.rv_code.specs.Addresses.{tracer_start}
use Rattle.rv_code.specs.Numbers.{wrap}
use Rattle.rv_memory.specs.Memory.{span}

module _ where
  abbrev all_tracers : ℕ → ℕ → Bool
  all_tracers address count = list_all (λ byte. nat_le tracer_start byte) (span address count)

  tracers_more : (address count : ℕ) → tracer_start ≤ address → all_tracers address (suc count) ≡ all_tracers (wrap (address + 1)) count
  tracers_more address count above =
      let here : nat_le tracer_start address ≡ true = grind (arith, nat_tests) in
      ap (λ t. t && all_tracers (wrap (address + 1)) count) here

  pub tracers_below : (address count : ℕ) → 0 < count → address < tracer_start → all_tracers address count ≡ false
  tracers_below address zero some below = absurd (omega arith)
  tracers_below address (suc count) some below =
      let here : nat_le tracer_start address ≡ false = grind (arith, nat_tests) in
      ap (λ t. t && all_tracers (wrap (address + 1)) count) here

  tracers_fit : (address count : ℕ) → tracer_start ≤ address → address + count ≤ 2 ^ 32 → all_tracers address count ≡ true
  tracers_fit address zero above fits = refl
  tracers_fit address (suc zero) above fits = tracers_more address zero above
  tracers_fit address (suc (suc count)) above fits =
      tracers_more address (suc count) above ∙ tracers_fit (wrap (address + 1)) (suc count) (omega arith) (omega arith)

  tracers_wrap : (address count : ℕ) → tracer_start ≤ address → address < 2 ^ 32 → 2 ^ 32 < address + count → all_tracers address count ≡ false
  tracers_wrap address zero above fits past = absurd (omega arith)
  tracers_wrap address (suc zero) above fits past = absurd (omega arith)
  tracers_wrap address (suc (suc count)) above fits past = elim (cases_Bool (nat_lt (address + 1) (2 ^ 32))) [
    | inl more ↦ let more_fits : address + 1 < 2 ^ 32 = grind (arith, nat_tests) in
        tracers_more address (suc count) above ∙ tracers_wrap (wrap (address + 1)) (suc count) (omega arith) (omega arith) (omega arith)
    | inr last ↦ let at_last : address + 1 ≡ 2 ^ 32 = grind (arith, nat_tests) in
        tracers_more address (suc count) above ∙ tracers_below (wrap (address + 1)) (suc count) (omega arith) (omega arith)
  ]

  pub tracers_above : (address count : ℕ) → 0 < count → tracer_start ≤ address → address < 2 ^ 32
      → nat_le (count - 1) (2 ^ 32 - 1 - address) ≡ all_tracers address count
  tracers_above address count some above fits = elim (cases_Bool (nat_le (count - 1) (2 ^ 32 - 1 - address))) [
    | inl is ↦ let within : address + count ≤ 2 ^ 32 = grind (arith, nat_tests) in is ∙ sym (tracers_fit address count above within)
    | inr is ↦ let past : 2 ^ 32 < address + count = grind (arith, nat_tests) in is ∙ sym (tracers_wrap address count above fits past)
  ]

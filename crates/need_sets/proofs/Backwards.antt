-- What is needed before an instruction, by the register that it writes.
use Rattle.std.proofs.Common.{◌≡◌, ℕ, eqb, IsTrue, not, ◌*◌, ◌%◌, ◌^◌, ◌<◌, Some, sym, ap, ◌∙◌, inl, inr, arith}
use Rattle.std.specs.Prelude.{◌↔◌, ◌≢◌, bit_and, bit_or}
use Rattle.std.specs.Int.{bit_at, bit_not, w32}
use Rattle.std.proofs.lemmas.Bool.{cases_eq, eq-eqb, ne_eqb}
use Rattle.std.proofs.lemmas.Nat.Bits.{bit_at-lt, bit_at_or}
use Rattle.rv_code.specs.declared.class.Class.TheVariants.{Plain}
use Rattle.rv_code.specs.declared.instr.Instr.{Instr}
use Rattle.rv_code.specs.Parts.{class_of, mask_of, sources_of, written_by}
use Rattle.need_sets.specs.Inner.Before.{GivesNeeded, NeedsBefore}
use Rattle.need_sets.proofs.Bits.{mask_has, has_mask, set_or_clear, shifted_clear, shifted_set, without_same, without_other}

abbrev pub IsNeededBefore : Instr → (behind mask : ℕ) → Type 0
IsNeededBefore instr behind mask = (register : ℕ) → (bit_at mask register ≡ 1) ↔ NeedsBefore instr behind register

same_register : (instr : Instr) (one other : ℕ) → written_by instr ≡ Some one → written_by instr ≡ Some other → one ≡ other
same_register instr one other is so = cc

-- what it writes isn't needed
pub before_unused : (instr : Instr) (behind written : ℕ) → written_by instr ≡ Some written → bit_at behind written ≡ 0 → IsNeededBefore instr behind behind
before_unused instr behind written is clear register = (
  (λ set.
      inr (record {
        other = λ writes. let same = same_register instr written register is writes in absurd (omega (arith, set, ap (bit_at behind) same));
        needs = set;
      })),
  (λ needs. elim needs [
    | inl feeds ↦ let same = same_register instr written feeds.written is feeds.writes in absurd (omega (arith, feeds.needs, ap (bit_at behind) same))
    | inr leaves ↦ leaves.needs
  ]),
)

-- it isn't Plain
pub before_other : (instr : Instr) (behind written : ℕ) → behind < 2 ^ 32 → written < 32 → written_by instr ≡ Some written → class_of instr ≢ Plain
    → IsNeededBefore instr behind (bit_and behind (bit_not w32 (1 * 2 ^ written % 2 ^ 32)))
before_other instr behind written word below is class register = (
  (λ set. elim (cases_eq register written) [
    | inl same ↦ absurd (omega (arith, set, without_same behind written below, ap (bit_at (bit_and behind (bit_not w32 (1 * 2 ^ written % 2 ^ 32)))) same))
    | inr other ↦
        inr (record {
          other = λ writes. absurd (other (same_register instr register written writes is));
          needs = sym (without_other behind written register word below other) ∙ set;
        })
  ]),
  (λ needs. elim needs [
    | inl feeds ↦ absurd (class feeds.class)
    | inr leaves ↦ without_other behind written register word below (λ same. leaves.other (is ∙ ap Some (sym same))) ∙ leaves.needs
  ]),
)

-- it is Plain, and what it writes is needed
pub before_plain : (instr : Instr) (behind written : ℕ) → behind < 2 ^ 32 → written < 32 → written_by instr ≡ Some written → class_of instr ≡ Plain → bit_at behind written ≡ 1
    → IsNeededBefore instr behind (bit_or (bit_and behind (bit_not w32 (1 * 2 ^ written % 2 ^ 32))) (mask_of (sources_of instr)))
before_plain instr behind written word below is class used register =
    let rest : ℕ = bit_and behind (bit_not w32 (1 * 2 ^ written % 2 ^ 32)) in
    let sources : ℕ = mask_of (sources_of instr) in
    let both = bit_at_or rest sources register in
    let kept : (register ≡ written → ⊥) → bit_at rest register ≡ bit_at behind register = without_other behind written register word below in
    let gone : register ≡ written → bit_at rest register ≡ 0 = λ same. ap (bit_at rest) same ∙ without_same behind written below in (
      (λ set. elim (set_or_clear sources register) [
        | inl reads ↦
            let (real, within) = has_mask (sources_of instr) register reads in
            inl (record { written = written; class = class; real = real; reads = within; writes = is; needs = used })
        | inr clear ↦
            let left : bit_at rest register ≡ 1 = omega (arith, both, set, clear) in
            inr (record {
              other = λ writes. absurd (omega (arith, left, gone (same_register instr register written writes is)));
              needs = sym (kept (λ same. omega (arith, left, gone same))) ∙ left;
            })
      ]),
      (λ needs. elim needs [
        | inl feeds ↦ both ∙ omega (arith, mask_has (sources_of instr) register feeds.real feeds.reads, bit_at-lt rest register)
        | inr leaves ↦
            let left : bit_at rest register ≡ 1 = kept (λ same. leaves.other (is ∙ ap Some (sym same))) ∙ leaves.needs in
            both ∙ omega (arith, left, bit_at-lt sources register)
      ]),
    )

-- whether what it writes is needed, by the test of its bit
pub gives_written : (instr : Instr) (behind written : ℕ) → written_by instr ≡ Some written → written < 32
    → IsTrue (not (eqb (bit_and behind (1 * 2 ^ written % 2 ^ 32)) 0)) ↔ GivesNeeded instr behind
gives_written instr behind written is below =
    let tested : ℕ = bit_and behind (1 * 2 ^ written % 2 ^ 32) in
    elim (cases_eq tested 0) [
      | inl none ↦ (
        (λ test. absurd (cc (sym (ap not (eq-eqb tested 0 none)) ∙ test))),
        (λ gives.
            let same = same_register instr written gives.register is gives.writes in
            absurd (omega (arith, gives.needs, shifted_clear behind written below none, ap (bit_at behind) same))),
      )
      | inr some ↦ (
        (λ test. record { register = written; writes = is; needs = shifted_set behind written below some }),
        (λ gives. ap not (ne_eqb tested 0 some)),
      )
    ]

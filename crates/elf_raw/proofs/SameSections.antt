-- What is read by the sections of a file and by a list of them is the same where each of them is.
use Rattle.std.proofs.Common.{◌≡◌, ℕ, zero, suc, ◌+◌, ◌*◌, ◌/◌, ◌%◌, ◌<◌, Bool, true, false, cond, List, [], ◌++◌, map, refl, sym, ap, ◌∙◌, arith}
use Rattle.std.proofs.lemmas.Bool.{eqb-true, ltb-true}
use Rattle.std.specs.List.{flat_map, range_with_len}
use Rattle.std.specs.Prelude.{not, nat_lt, ◌&&◌, ◌||◌, ◌==◌}
use Rattle.elf_raw.specs.declared.section.RawSection.{RawSection}
use Rattle.elf_raw.specs.Refusal.{passes, symbols_misfit, relocations_offend, section_misfits}
use Rattle.elf_raw.specs.Relocations.{relocations_in, relocations_of_section, relocations_among}
use Rattle.elf_raw.specs.Sections.{has_no_bytes}
use Rattle.elf_raw.specs.Symbols.{symbol_at, symbols_in, symbols_of_section, symbols_among}
use Rattle.elf_raw.proofs.Misfits.{second_fails, symbols_linked}

same_when : {X : Type 0} (b : Bool) (x y z : X) → (b ≡ true → x ≡ y) → cond b x z ≡ cond b y z
same_when true x y z same = same refl
same_when false x y z same = refl

flat_map_same : {X : Type 0} (f g : ℕ → List X) (from count : ℕ) → ((k : ℕ) → k < count → f (from + k) ≡ g (from + k)) → flat_map f (range_with_len from count) ≡ flat_map g (range_with_len from count)
flat_map_same f g from zero same = refl
flat_map_same {X} f g from (suc count) same =
    let here : from + 0 ≡ from = omega arith in
    let first : f from ≡ g from = ap f (sym here) ∙ same 0 (omega arith) ∙ ap g here in
    let rest : flat_map f (range_with_len (from + 1) count) ≡ flat_map g (range_with_len (from + 1) count) =
    flat_map_same f g (from + 1) count
    (λ k below.
    let there : from + 1 + k ≡ from + suc k = omega arith in
    ap f there ∙ same (suc k) (omega arith) ∙ ap g (sym there)) in
    λ i. first i ++ rest i

absorbed : (k a b x y : Bool) → (k && (a || b || true || x)) ≡ (k && (a || b || true || y))
absorbed false a b x y = refl
absorbed true true b x y = refl
absorbed true false true x y = refl
absorbed true false false x y = refl

module _ (one other : ℕ → RawSection) (count : ℕ) (same : (number : ℕ) → number < count → one number ≡ other number) where
  misfit_by : (section : RawSection) (linked : Bool) → nat_lt section.link count ≡ linked
      → ((section.kind == 2) && (not (section.entsize == 16) || not (section.size % 16 == 0) || not linked || not ((one section.link).kind == 3)))
      ≡ ((section.kind == 2) && (not (section.entsize == 16) || not (section.size % 16 == 0) || not linked || not ((other section.link).kind == 3)))
  misfit_by section true is =
      ap
      (λ (s : RawSection). (section.kind == 2) && (not (section.entsize == 16) || not (section.size % 16 == 0) || false || not (s.kind == 3)))
      (same section.link (ltb-true section.link count is))
  misfit_by section false is =
      absorbed (section.kind == 2) (not (section.entsize == 16)) (not (section.size % 16 == 0)) (not ((one section.link).kind == 3)) (not ((other section.link).kind == 3))

  same_misfit : (section : RawSection) → symbols_misfit one count section ≡ symbols_misfit other count section
  same_misfit section = misfit_by section (nat_lt section.link count) refl

  pub same_misfits : (end : ℕ) (section : RawSection) → section_misfits end one count section ≡ section_misfits end other count section
  same_misfits end section =
      ap
      (λ (t : Bool). (not (has_no_bytes section.kind) && passes end section.offset section.size) || t || relocations_offend section)
      (same_misfit section)

  symbols_same_in : (bytes : List ℕ) (number : ℕ) → number < count → symbols_misfit other count (other number) ≡ false → symbols_of_section bytes one number ≡ symbols_of_section bytes other number
  symbols_same_in bytes number below fits =
      ap (λ (s : RawSection). cond (s.kind == 2) (symbols_in bytes one number s) []) (same number below)
      ∙ same_when ((other number).kind == 2) (symbols_in bytes one number (other number)) (symbols_in bytes other number (other number)) []
      (λ is.
      let link : (other number).link < count = symbols_linked other count (other number) fits (eqb-true (other number).kind 2 is) in
      ap
      (λ (strings : RawSection). map (λ place. symbol_at bytes number strings ((other number).offset + 16 * place)) (range_with_len 0 ((other number).size / 16)))
      (same (other number).link link))

  pub symbols_same : (bytes : List ℕ) (end : ℕ) → ((number : ℕ) → number < count → section_misfits end other count (other number) ≡ false) → symbols_among bytes one count ≡ symbols_among bytes other count
  symbols_same bytes end fits =
      flat_map_same (symbols_of_section bytes one) (symbols_of_section bytes other) 0 count
      (λ number below.
      let there : 0 + number ≡ number = omega arith in
      ap (symbols_of_section bytes one) there
      ∙ symbols_same_in bytes number below (second_fails _ _ _ (fits number below))
      ∙ ap (symbols_of_section bytes other) (sym there))

  pub relocations_same : (bytes : List ℕ) → relocations_among bytes one count ≡ relocations_among bytes other count
  relocations_same bytes =
      flat_map_same (relocations_of_section bytes one) (relocations_of_section bytes other) 0 count
      (λ number below.
      let there : 0 + number ≡ number = omega arith in
      ap (relocations_of_section bytes one) there
      ∙ ap (λ (s : RawSection). cond (s.kind == 4) (relocations_in bytes number s) []) (same number below)
      ∙ ap (relocations_of_section bytes other) (sym there))

-- The words of a section are those of an extent, found by rounding.
use Rattle.std.proofs.Common.{◌≡◌, ℕ, zero, suc, ◌+◌, ◌-◌, ◌/◌, ◌%◌, ◌<◌, ◌≤◌, Bool, true, false, cond, ◌&&◌, eqb, leb, List, [], ◌∷◌, sym, ap, ◌∙◌, inl, inr, arith}
use Rattle.std.specs.List.{filter, range_with_len}
use Rattle.std.proofs.lemmas.Bool.{cases_eq, cases_lt, eq-eqb, ne_eqb, le-leb, lt-leb}
use Rattle.elf_raw.specs.declared.section.RawSection.{RawSection}
use Rattle.rv_code.specs.Places.{words_of}
use Rattle.rv_code.proofs.LawsOfPlaces.{words_of-first}
use Rattle.elf_image.specs.CodeWords.{words_in}

-- a word stands there that ends at `end` or below
abbrev pub word_below : ℕ → ℕ → Bool
word_below end address = eqb (address % 4) 0 && leb (address + 4) end

kept : (end address : ℕ) (rest : List ℕ) → address % 4 ≡ 0 → address + 4 ≤ end → cond (word_below end address) (address ∷ rest) rest ≡ address ∷ rest
kept end address rest aligned below =
    let whole : eqb (address % 4) 0 ≡ true = eq-eqb (address % 4) 0 aligned in
    let inside : leb (address + 4) end ≡ true = le-leb (address + 4) end below in
    rw (whole, inside)

crossed : (end address : ℕ) (rest : List ℕ) → end < address + 4 → cond (word_below end address) (address ∷ rest) rest ≡ rest
crossed end address rest past = elim (cases_eq (address % 4) 0) [
  | inl aligned ↦
      let whole : eqb (address % 4) 0 ≡ true = eq-eqb (address % 4) 0 aligned in
      let outside : leb (address + 4) end ≡ false = lt-leb (address + 4) end past in
      rw (whole, outside)
  | inr other ↦ let whole : eqb (address % 4) 0 ≡ false = ne_eqb (address % 4) 0 other in rw whole
]

unaligned : (end address : ℕ) (rest : List ℕ) → (address % 4 ≡ 0 → ⊥) → cond (word_below end address) (address ∷ rest) rest ≡ rest
unaligned end address rest other = let whole : eqb (address % 4) 0 ≡ false = ne_eqb (address % 4) 0 other in rw whole

-- the words from `start` on, which is the first multiple of 4 from `from` on
pub words_below : (from size end start : ℕ) → from + size ≡ end → start % 4 ≡ 0 → from ≤ start → start < from + 4
    → filter (word_below end) (range_with_len from size) ≡ words_of (record { start = start; count = (end - start) / 4 })
words_below from zero end start is aligned above below =
    let none : (end - start) / 4 ≡ 0 = omega arith in
    ap (λ n. words_of (record { start = start; count = n })) (sym none)
words_below from (suc size) end start is aligned above below = elim (cases_eq from start) [
  | inr other ↦
      let rest = words_below (from + 1) size end start (omega arith) aligned (omega arith) (omega arith) in
      unaligned end from (filter (word_below end) (range_with_len (from + 1) size)) (λ whole. omega arith) ∙ rest
  | inl same ↦ elim (cases_lt end (start + 4)) [
    | inr inside ↦
        let rest = words_below (from + 1) size end (start + 4) (omega arith) (omega arith) (omega arith) (omega arith) in
        let more : 1 + (end - (start + 4)) / 4 ≡ (end - start) / 4 = omega arith in
        kept end from (filter (word_below end) (range_with_len (from + 1) size)) (omega arith) (omega arith)
        ∙ (λ i. same i ∷ rest i)
        ∙ sym (words_of-first start ((end - (start + 4)) / 4))
        ∙ ap (λ n. words_of (record { start = start; count = n })) more
    | inl past ↦
        let rest = words_below (from + 1) size end (start + 4) (omega arith) (omega arith) (omega arith) (omega arith) in
        let none : (end - (start + 4)) / 4 ≡ 0 = omega arith in
        let nothing : (end - start) / 4 ≡ 0 = omega arith in
        crossed end from (filter (word_below end) (range_with_len (from + 1) size)) (omega arith)
        ∙ rest
        ∙ ap (λ n. words_of (record { start = start + 4; count = n })) none
        ∙ ap (λ n. words_of (record { start = start; count = n })) (sym nothing)
  ]
]

-- the words of a section, by its first multiple of 4
pub words_in_extent : (section : RawSection) (start end : ℕ) → end ≡ section.addr + section.size → start % 4 ≡ 0 → section.addr ≤ start → start < section.addr + 4
    → words_of (record { start = start; count = (end - start) / 4 }) ≡ words_in section
words_in_extent section start end is aligned above below =
    sym (words_below section.addr section.size end start (sym is) aligned above below)
    ∙ ap (λ n. filter (word_below n) (range_with_len section.addr section.size)) is

pub no_words_in : (section : RawSection) (start end : ℕ) → end ≡ section.addr + section.size → start % 4 ≡ 0 → section.addr ≤ start → start < section.addr + 4 → end < start + 4
    → words_in section ≡ []
no_words_in section start end is aligned above below past =
    let none : (end - start) / 4 ≡ 0 = omega arith in
    sym (words_in_extent section start end is aligned above below) ∙ ap (λ n. words_of (record { start = start; count = n })) none

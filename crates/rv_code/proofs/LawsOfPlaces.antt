-- Code words in order: which addresses they have, that these rise, and that the extents are found again in them.
use Rattle.std.proofs.Common.{◌≡◌, ℕ, zero, suc, ◌+◌, ◌-◌, ◌*◌, ◌/◌, ◌%◌, ◌^◌, ◌<◌, ◌≤◌, Bool, true, cond, eqb, ltb, leb, List, [], ◌∷◌, ◌++◌, length, get_or, map, sym, refl, ap, ◌∙◌, subst, inl, inr, arith, length-append}
use Rattle.std.specs.Prelude.{⊤, is_some, sum}
use Rattle.std.specs.List.{AllByRecursion, Contains, range_with_len}
use Rattle.std.specs.List.Sorted.{IsStrictlyIncreasing}
use Rattle.std.proofs.lemmas.Bool.{cases_eq, cases_lt, or_cases, or_left, or_right, lt-ltb, le-leb, eq-eqb, ne_eqb}
use Rattle.std.proofs.lemmas.Bool.Decides.{nat_tests}
use Rattle.std.proofs.lemmas.List.Sums.{sum_by-cons}
use Rattle.std.proofs.lemmas.List.FromFn.{length-map-range_with_len}
use Rattle.std.proofs.lemmas.List.Elements.{Contains-append_left, Contains-append_right, Contains-append_cases}
use Rattle.rv_code.specs.declared.extent.Extent.{Extent}
use Rattle.rv_code.specs.declared.image.Image.{Image}
use Rattle.rv_code.specs.declared.image.Range.{Range}
use Rattle.rv_code.specs.Code.{extent_end, extent_of, extents_of, is_word_of, is_code}
use Rattle.rv_code.specs.declared.image.Region.{Region}
use Rattle.rv_code.specs.Image.{IsImage, IsRegion, IsRange, RangesRise, region_end, word_count}
use Rattle.rv_code.specs.Places.{words_of, code_addresses, EndsInSpace, IsCodeExtent, ExtentsRise, AreCodeExtents, put_before, extents_at}
use Rattle.rv_code.proofs.LawsOfLists.{Rises, IsStrictlyIncreasing-from_Rises, Rises-from_IsStrictlyIncreasing}

-- so many addresses from a number on, counted from a start
abbrev pub words_from : (start first count : ℕ) → List ℕ
words_from start first count = map (λ number. start + 4 * number) (range_with_len first count)

-- which addresses these are
words_from-Contains : (start first count number address : ℕ) → first ≤ number → number < first + count → address ≡ start + 4 * number → Contains (words_from start first count) address
words_from-Contains start first zero number address above below is = absurd (omega arith)
words_from-Contains start first (suc count) number address above below is = elim (cases_eq first number) [
  | inl here ↦ (0, omega arith, omega arith)
  | inr later ↦
      let past : first + 1 ≤ number = elim (cases_lt first number) [ inl less ↦ omega arith | inr more ↦ absurd (later (omega arith)) ] in
      let (place, inside, same) = words_from-Contains start (first + 1) count number address past (omega arith) is in
      (suc place, omega arith, same)
]

Contains-words_from : (start first count address : ℕ) → Contains (words_from start first count) address
    → (number : ℕ) × (first ≤ number) × (number < first + count) × (address ≡ start + 4 * number)
Contains-words_from start first zero address (place, inside, same) = absurd (omega arith)
Contains-words_from start first (suc count) address (zero, inside, same) = (first, omega arith, omega arith, sym same)
Contains-words_from start first (suc count) address (suc place, inside, same) =
    let (number, above, below, is) = Contains-words_from start (first + 1) count address (place, omega arith, same) in
    (number, omega arith, omega arith, is)

pub is_word_of-Contains : (extent : Extent) (address : ℕ) → extent.start % 4 ≡ 0 → is_word_of extent address ≡ true → Contains (words_of extent) address
is_word_of-Contains extent address aligned is =
    let lies : (extent.start ≤ address) × (address < extent.start + 4 * extent.count) × (address % 4 ≡ 0) = grind (arith, nat_tests) in
    words_from-Contains extent.start 0 extent.count ((address - extent.start) / 4) address (omega arith) (omega arith) (omega arith)

pub Contains-is_word_of : (extent : Extent) (address : ℕ) → extent.start % 4 ≡ 0 → Contains (words_of extent) address → is_word_of extent address ≡ true
Contains-is_word_of extent address aligned within =
    let (number, above, below, is) = Contains-words_from extent.start 0 extent.count address within in
    let low : leb extent.start address ≡ true = le-leb extent.start address (omega arith) in
    let high : ltb address (extent_end extent) ≡ true = lt-ltb address (extent_end extent) (omega arith) in
    let whole : eqb (address % 4) 0 ≡ true = eq-eqb (address % 4) 0 (omega arith) in
    rw (low, high, whole)

-- the address of a code word is a multiple of 4
pub is_code-aligned : (extents : List Extent) (address : ℕ) → is_code extents address ≡ true → address % 4 ≡ 0
is_code-aligned [] address is = absurd (cc is)
is_code-aligned (extent ∷ extents) address is = elim (or_cases (is_word_of extent address) (is_code extents address) is) [
  | inl here ↦
      let lies : (extent.start ≤ address) × (address < extent.start + 4 * extent.count) × (address % 4 ≡ 0) = grind (arith, nat_tests) in lies.2
  | inr there ↦ is_code-aligned extents address there
]

abbrev pub StartsAligned : Extent → Type 0
StartsAligned extent = extent.start % 4 ≡ 0

pub is_code-by_starts : (extents : List Extent) (address : ℕ) → AllByRecursion StartsAligned extents → is_code extents address ≡ true → Contains (code_addresses extents) address
is_code-by_starts [] address aligned is = absurd (cc)
is_code-by_starts (extent ∷ extents) address aligned is = elim (or_cases (is_word_of extent address) (is_code extents address) is) [
  | inl here ↦ Contains-append_left (words_of extent) (code_addresses extents) address (is_word_of-Contains extent address aligned.0 here)
  | inr there ↦ Contains-append_right (words_of extent) (code_addresses extents) address (is_code-by_starts extents address aligned.1 there)
]

pub by_starts-is_code : (extents : List Extent) (address : ℕ) → AllByRecursion StartsAligned extents → Contains (code_addresses extents) address → is_code extents address ≡ true
by_starts-is_code [] address aligned (place, inside, same) = absurd (omega arith)
by_starts-is_code (extent ∷ extents) address aligned within = elim (Contains-append_cases (words_of extent) (code_addresses extents) address within) [
  | inl here ↦ or_left (is_word_of extent address) (is_code extents address) (Contains-is_word_of extent address aligned.0 here)
  | inr there ↦ or_right (is_word_of extent address) (is_code extents address) (by_starts-is_code extents address aligned.1 there)
]

pub starts_aligned : (extents : List Extent) → AllByRecursion IsCodeExtent extents → AllByRecursion StartsAligned extents
starts_aligned [] runs = tt
starts_aligned (extent ∷ extents) runs = (runs.0.aligned, starts_aligned extents runs.1)

-- a code word stands at an address exactly where the code words' addresses have it
pub is_code-Contains : (extents : List Extent) (address : ℕ) → AreCodeExtents extents → is_code extents address ≡ true → Contains (code_addresses extents) address
is_code-Contains extents address runs is = is_code-by_starts extents address (starts_aligned extents runs.each) is

pub Contains-is_code : (extents : List Extent) (address : ℕ) → AreCodeExtents extents → Contains (code_addresses extents) address → is_code extents address ≡ true
Contains-is_code extents address runs within = by_starts-is_code extents address (starts_aligned extents runs.each) within

pub Rises-lower : (low high : ℕ) (xs : List ℕ) → low ≤ high → Rises high xs → Rises low xs
Rises-lower low high [] below rises = tt
Rises-lower low high (x ∷ xs) below rises = (omega (arith, rises.0), rises.1)

words_from-Rises : (low start first count : ℕ) (rest : List ℕ) → low ≤ start + 4 * first → Rises (start + 4 * (first + count)) rest → Rises low (words_from start first count ++ rest)
words_from-Rises low start first zero rest below rises = Rises-lower low (start + 4 * (first + 0)) rest (omega arith) rises
words_from-Rises low start first (suc count) rest below rises =
    (below, words_from-Rises (start + 4 * first + 1) start (first + 1) count rest (omega arith) (Rises-lower (start + 4 * (first + 1 + count)) (start + 4 * (first + suc count)) rest (omega arith) rises))

-- the extents start at `low` or above, and each behind the one before
abbrev RiseFrom : ℕ → List Extent → Type 0
RiseFrom low [] = ⊤
RiseFrom low (extent ∷ extents) = (low ≤ extent.start) × RiseFrom (extent_end extent + 1) extents

RiseFrom-rest : (extent : Extent) (extents : List Extent) → ExtentsRise (extent ∷ extents) → RiseFrom (extent_end extent + 1) extents
RiseFrom-rest extent [] rise = tt
RiseFrom-rest extent (next ∷ extents) rise = (omega (arith, rise.0), RiseFrom-rest next extents rise.1)

RiseFrom-from_ExtentsRise : (extents : List Extent) → ExtentsRise extents → RiseFrom 0 extents
RiseFrom-from_ExtentsRise [] rise = tt
RiseFrom-from_ExtentsRise (extent ∷ extents) rise = (omega arith, RiseFrom-rest extent extents rise)

code_addresses-Rises : (low : ℕ) (extents : List Extent) → RiseFrom low extents → Rises low (code_addresses extents)
code_addresses-Rises low [] rise = tt
code_addresses-Rises low (extent ∷ extents) rise =
    words_from-Rises low extent.start 0 extent.count (code_addresses extents) (omega (arith, rise.0))
    (Rises-lower (extent.start + 4 * (0 + extent.count)) (extent_end extent + 1) (code_addresses extents) (omega arith)
    (code_addresses-Rises (extent_end extent + 1) extents rise.1))

-- the addresses of the code words rise
pub code_addresses-IsStrictlyIncreasing : (extents : List Extent) → ExtentsRise extents → IsStrictlyIncreasing (code_addresses extents)
code_addresses-IsStrictlyIncreasing extents rise =
    IsStrictlyIncreasing-from_Rises 0 (code_addresses extents) (code_addresses-Rises 0 extents (RiseFrom-from_ExtentsRise extents rise))

pub length-words_of : (extent : Extent) → length (words_of extent) ≡ extent.count
length-words_of extent = length-map-range_with_len (λ number. extent.start + 4 * number) 0 extent.count

-- there are as many as the extents count
pub length-code_addresses : (extents : List Extent) → length (code_addresses extents) ≡ sum (map (λ (extent : Extent). extent.count) extents)
length-code_addresses [] = refl
length-code_addresses (extent ∷ extents) =
    length-append (words_of extent) (code_addresses extents)
    ∙ (omega (arith, length-words_of extent, length-code_addresses extents, sum_by-cons (λ n. n) extent.count (map (λ (extent : Extent). extent.count) extents)))

pub length-code_addresses_of_ranges : (ranges : List Range) → length (code_addresses (extents_of ranges)) ≡ word_count ranges
length-code_addresses_of_ranges [] = refl
length-code_addresses_of_ranges (range ∷ ranges) =
    length-append (words_of (extent_of range)) (code_addresses (extents_of ranges))
    ∙ (omega (arith, length-words_of (extent_of range), length-code_addresses_of_ranges ranges, sum_by-cons (λ n. n) (length range.words) (map (λ (range : Range). length range.words) ranges)))

-- the ranges of an image rise exactly where their extents do
pub ExtentsRise-from_ranges : (ranges : List Range) → RangesRise ranges → ExtentsRise (extents_of ranges)
ExtentsRise-from_ranges [] rise = tt
ExtentsRise-from_ranges (range ∷ []) rise = tt
ExtentsRise-from_ranges (range ∷ next ∷ ranges) rise = (rise.0, ExtentsRise-from_ranges (next ∷ ranges) rise.1)

pub RangesRise-from_extents : (ranges : List Range) → ExtentsRise (extents_of ranges) → RangesRise ranges
RangesRise-from_extents [] rise = tt
RangesRise-from_extents (range ∷ []) rise = tt
RangesRise-from_extents (range ∷ next ∷ ranges) rise = (rise.0, RangesRise-from_extents (next ∷ ranges) rise.1)

each_is_run : (regions : List Region) (ranges : List Range) → AllByRecursion (IsRange regions) ranges → AllByRecursion IsCodeExtent (extents_of ranges)
each_is_run regions [] are = tt
each_is_run regions (range ∷ ranges) are = (record { some = are.0.some; aligned = are.0.aligned }, each_is_run regions ranges are.1)

-- the extents of an image's code words
pub IsImage-AreCodeExtents : (image : Image) → IsImage image → AreCodeExtents (extents_of image.code)
IsImage-AreCodeExtents image is = record { each = each_is_run image.regions image.code is.ranges; rise = ExtentsRise-from_ranges image.code is.ranges_rise }

-- the addresses from the next number on are those from an address that lies four further on
words_from-next : (start first count : ℕ) → words_from start (first + 1) count ≡ words_from (start + 4) first count
words_from-next start first zero = refl
words_from-next start first (suc count) =
    let one : start + 4 * (first + 1) ≡ start + 4 + 4 * first = omega arith in
    let rest = words_from-next start (first + 1) count in
    cc

pub words_of-first : (start count : ℕ) → words_of (record { start = start; count = 1 + count }) ≡ start ∷ words_of (record { start = start + 4; count = count })
words_of-first start count =
    let one : 1 + count ≡ suc count = omega arith in
    let first : start + 4 * 0 ≡ start = omega arith in
    let rest : words_from start (0 + 1) count ≡ words_from (start + 4) 0 count = words_from-next start 0 count in
    subst (λ n. words_from start 0 n ≡ start ∷ words_from (start + 4) 0 count) (sym one) (cc)

-- does an address touch what stands behind it
put_before-cases : (address : ℕ) (extent : Extent) (extents : List Extent) (P : List Extent → Type 0)
    → (address + 4 ≡ extent.start → P (record { start = address; count = 1 + extent.count } ∷ extents))
    → ((address + 4 ≡ extent.start → ⊥) → P (record { start = address; count = 1 } ∷ extent ∷ extents))
    → P (put_before address (extent ∷ extents))
put_before-cases address extent extents P touches apart = elim (cases_eq (address + 4) extent.start) [
  | inl same ↦
      subst (λ b. P (cond b (record { start = address; count = 1 + extent.count } ∷ extents) (record { start = address; count = 1 } ∷ extent ∷ extents)))
      (sym (eq-eqb (address + 4) extent.start same)) (touches same)
  | inr other ↦
      subst (λ b. P (cond b (record { start = address; count = 1 + extent.count } ∷ extents) (record { start = address; count = 1 } ∷ extent ∷ extents)))
      (sym (ne_eqb (address + 4) extent.start other)) (apart other)
]

code_addresses-put_before : (address : ℕ) (extents : List Extent) → code_addresses (put_before address extents) ≡ address ∷ code_addresses extents
code_addresses-put_before address [] = let first : address + 4 * 0 ≡ address = omega arith in cc
code_addresses-put_before address (extent ∷ extents) =
    put_before-cases address extent extents (λ all. code_addresses all ≡ address ∷ code_addresses (extent ∷ extents))
    (λ touches.
    let words : words_of (record { start = address; count = 1 + extent.count }) ≡ address ∷ words_of (record { start = extent.start; count = extent.count }) =
    subst (λ n. words_of (record { start = address; count = 1 + extent.count }) ≡ address ∷ words_of (record { start = n; count = extent.count })) touches (words_of-first address extent.count)
    in
    ap (λ front. front ++ code_addresses extents) words)
    (λ _. let first : address + 4 * 0 ≡ address = omega arith in cc)

-- the extents of a list of addresses have these addresses
pub code_addresses-extents_at : (addresses : List ℕ) → code_addresses (extents_at addresses) ≡ addresses
code_addresses-extents_at [] = refl
code_addresses-extents_at (address ∷ addresses) =
    code_addresses-put_before address (extents_at addresses) ∙ ap (λ rest. address ∷ rest) (code_addresses-extents_at addresses)

-- the first of the extents, if there is one, starts at an address or above; or not at it
abbrev StartAbove : ℕ → List Extent → Type 0
StartAbove low [] = ⊤
StartAbove low (extent ∷ extents) = low ≤ extent.start

abbrev StartsElsewhere : ℕ → List Extent → Type 0
StartsElsewhere address [] = ⊤
StartsElsewhere address (extent ∷ extents) = address ≡ extent.start → ⊥

put_before-apart : (address : ℕ) (extents : List Extent) → StartsElsewhere (address + 4) extents → put_before address extents ≡ record { start = address; count = 1 } ∷ extents
put_before-apart address [] apart = refl
put_before-apart address (extent ∷ extents) apart =
    put_before-cases address extent extents (λ all. all ≡ record { start = address; count = 1 } ∷ extent ∷ extents) (λ touches. absurd (apart touches)) (λ _. refl)

put_before-touching : (address count : ℕ) (extents : List Extent)
    → put_before address (record { start = address + 4; count = count } ∷ extents) ≡ record { start = address; count = 1 + count } ∷ extents
put_before-touching address count extents =
    put_before-cases address (record { start = address + 4; count = count }) extents (λ all. all ≡ record { start = address; count = 1 + count } ∷ extents)
    (λ _. refl) (λ apart. absurd (apart refl))

one_extent : (count : ℕ) (start : ℕ) (addresses : List ℕ) (extents : List Extent) → extents_at addresses ≡ extents → StartsElsewhere (start + 4 * suc count) extents
    → extents_at (words_from start 0 (suc count) ++ addresses) ≡ record { start = start; count = suc count } ∷ extents
one_extent zero start addresses extents same apart =
    let first : start + 4 * 0 ≡ start = omega arith in
    let next : start + 4 * suc 0 ≡ start + 4 = omega arith in
    subst (λ n. put_before n (extents_at addresses) ≡ record { start = start; count = 1 } ∷ extents) (sym first)
    (subst (λ all. put_before start all ≡ record { start = start; count = 1 } ∷ extents) (sym same)
    (put_before-apart start extents (subst (λ n. StartsElsewhere n extents) next apart)))
one_extent (suc count) start addresses extents same apart =
    let first : start + 4 * 0 ≡ start = omega arith in
    let end : start + 4 * suc (suc count) ≡ start + 4 + 4 * suc count = omega arith in
    let shifted : words_from start (0 + 1) (suc count) ≡ words_from (start + 4) 0 (suc count) = words_from-next start 0 (suc count) in
    let rest : extents_at (words_from (start + 4) 0 (suc count) ++ addresses) ≡ record { start = start + 4; count = suc count } ∷ extents =
    one_extent count (start + 4) addresses extents same (subst (λ n. StartsElsewhere n extents) end apart)
    in
    let moved : extents_at (words_from start (0 + 1) (suc count) ++ addresses) ≡ record { start = start + 4; count = suc count } ∷ extents =
    ap (λ words. extents_at (words ++ addresses)) shifted ∙ rest
    in
    let longer : 1 + suc count ≡ suc (suc count) = omega arith in
    subst (λ n. put_before n (extents_at (words_from start (0 + 1) (suc count) ++ addresses)) ≡ record { start = start; count = suc (suc count) } ∷ extents) (sym first)
    (ap (put_before start) moved
    ∙ (put_before-touching start (suc count) extents ∙ ap (λ n. record { start = start; count = n } ∷ extents) longer))

elsewhere_from_rise : (extent : Extent) (extents : List Extent) (address : ℕ) → address ≡ extent_end extent → ExtentsRise (extent ∷ extents) → StartsElsewhere address extents
elsewhere_from_rise extent [] address is rise = tt
elsewhere_from_rise extent (next ∷ extents) address is rise = λ same. absurd (omega (arith, rise.0))

pub ExtentsRise-rest : (extent : Extent) (extents : List Extent) → ExtentsRise (extent ∷ extents) → ExtentsRise extents
ExtentsRise-rest extent [] rise = tt
ExtentsRise-rest extent (next ∷ extents) rise = rise.1

found_again : (extents : List Extent) → AllByRecursion IsCodeExtent extents → ExtentsRise extents → extents_at (code_addresses extents) ≡ extents
found_again [] runs rise = refl
found_again (extent ∷ extents) runs rise =
    let count : suc (extent.count - 1) ≡ extent.count = omega (arith, runs.0.some) in
    let rest = found_again extents runs.1 (ExtentsRise-rest extent extents rise) in
    let here = one_extent (extent.count - 1) extent.start (code_addresses extents) extents rest (elsewhere_from_rise extent extents (extent.start + 4 * suc (extent.count - 1)) (omega arith) rise) in
    subst (λ n. extents_at (words_from extent.start 0 n ++ code_addresses extents) ≡ record { start = extent.start; count = n } ∷ extents) count here

-- the extents are found again in the addresses of their words
pub extents_at-code_addresses : (extents : List Extent) → AreCodeExtents extents → extents_at (code_addresses extents) ≡ extents
extents_at-code_addresses extents runs = found_again extents runs.each runs.rise

-- what the extents of addresses that rise are
record ExtentsAbove (low : ℕ) (extents : List Extent) : Type 0 where
  start : StartAbove low extents
  each : AllByRecursion IsCodeExtent extents
  rise : ExtentsRise extents

same_end-ExtentsRise : (extent other : Extent) (extents : List Extent) → extent_end other ≡ extent_end extent → ExtentsRise (extent ∷ extents) → ExtentsRise (other ∷ extents)
same_end-ExtentsRise extent other [] same rise = tt
same_end-ExtentsRise extent other (next ∷ extents) same rise = (omega (arith, rise.0), rise.1)

put_before-ExtentsAbove : (address : ℕ) (extents : List Extent) → address % 4 ≡ 0 → ExtentsAbove (address + 1) extents → ExtentsAbove address (put_before address extents)
put_before-ExtentsAbove address [] aligned runs = record { start = omega arith; each = (record { some = omega arith; aligned = aligned }, tt); rise = tt }
put_before-ExtentsAbove address (extent ∷ extents) aligned runs =
    put_before-cases address extent extents (ExtentsAbove address)
    (λ touches.
    record {
      start = omega arith;
      each = (record { some = omega arith; aligned = aligned }, runs.each.1);
      rise = same_end-ExtentsRise extent (record { start = address; count = 1 + extent.count }) extents (omega arith) runs.rise;
    })
    (λ apart.
    let above : address + 1 ≤ extent.start = runs.start in
    let whole : extent.start % 4 ≡ 0 = runs.each.0.aligned in
    let far : address + 4 ≤ extent.start = omega arith in
    let behind : address + 4 < extent.start = elim (cases_lt (address + 4) extent.start) [ inl less ↦ less | inr more ↦ absurd (apart (omega arith)) ] in
    record {
      start = omega arith;
      each = (record { some = omega arith; aligned = aligned }, runs.each);
      rise = (omega (arith, behind), runs.rise);
    })

extents_at-ExtentsAbove : (low : ℕ) (addresses : List ℕ) → Rises low addresses → AllByRecursion (λ address. address % 4 ≡ 0) addresses → ExtentsAbove low (extents_at addresses)
extents_at-ExtentsAbove low [] rises aligned = record { start = tt; each = tt; rise = tt }
extents_at-ExtentsAbove low (address ∷ addresses) rises aligned =
    lower low address (put_before address (extents_at addresses)) rises.0
    (put_before-ExtentsAbove address (extents_at addresses) aligned.0 (extents_at-ExtentsAbove (address + 1) addresses rises.1 aligned.1))
  where
    lower : (low high : ℕ) (extents : List Extent) → low ≤ high → ExtentsAbove high extents → ExtentsAbove low extents
    lower low high [] below runs = record { start = tt; each = runs.each; rise = runs.rise }
    lower low high (extent ∷ extents) below runs = record { start = omega (arith, runs.start); each = runs.each; rise = runs.rise }

-- the extents of addresses that rise and are multiples of 4
pub extents_at-AreCodeExtents : (addresses : List ℕ) → IsStrictlyIncreasing addresses → AllByRecursion (λ address. address % 4 ≡ 0) addresses → AreCodeExtents (extents_at addresses)
extents_at-AreCodeExtents addresses rise aligned =
    let runs = extents_at-ExtentsAbove 0 addresses (Rises-from_IsStrictlyIncreasing 0 addresses (λ _. omega arith) rise) aligned in
    record { each = runs.each; rise = runs.rise }

-- a region of an image ends within the address space, and so does each range
pub region_fits : (has_note : Bool) (region : Region) → IsRegion has_note region → region_end region ≤ 2 ^ 32
region_fits has_note region is = elim is.allowed [ inl below ↦ omega (arith, below) | inr above ↦ above.2 ]

pub at_place : (P : Region → Type 0) (regions : List Region) → AllByRecursion P regions → (place : ℕ) (other : Region) → place < length regions → P (get_or regions place other)
at_place P [] all place other inside = absurd (omega arith)
at_place P (region ∷ regions) all zero other inside = all.0
at_place P (region ∷ regions) all (suc place) other inside = at_place P regions all.1 place other (omega arith)

range_fits : (has_note : Bool) (regions : List Region) (range : Range) → AllByRecursion (IsRegion has_note) regions → IsRange regions range → EndsInSpace (extent_of range)
range_fits has_note regions range all is =
    let held = is.held in
    let fits = region_fits has_note held.1 (subst (IsRegion has_note) held.3 (at_place (IsRegion has_note) regions all held.0 held.1 held.2)) in
    omega (arith, fits, held.4.below)

ranges_fit : (has_note : Bool) (regions : List Region) (ranges : List Range) → AllByRecursion (IsRegion has_note) regions → AllByRecursion (IsRange regions) ranges → AllByRecursion EndsInSpace (extents_of ranges)
ranges_fit has_note regions [] all are = tt
ranges_fit has_note regions (range ∷ ranges) all are = (range_fits has_note regions range all are.0, ranges_fit has_note regions ranges all are.1)

pub IsImage-EndsInSpace : (image : Image) → IsImage image → AllByRecursion EndsInSpace (extents_of image.code)
IsImage-EndsInSpace image is = ranges_fit (is_some image.note) image.regions image.code is.regions is.ranges

-- Extents that are joined where they touch are the runs of the addresses of their words.
use Rattle.std.proofs.Common.{◌≡◌, ℕ, ◌+◌, ◌-◌, ◌*◌, ◌/◌, ◌%◌, ◌<◌, ◌≤◌, Bool, true, false, cond, ◌||◌, eqb, ltb, leb, max, List, [], ◌∷◌, length, get_or, take, drop, refl, sym, ap, ◌∙◌, subst, inl, inr, arith}
use Rattle.std.specs.List.{All, AllByRecursion, Contains}
use Rattle.std.specs.List.Sorted.{IsPermutation, IsNonDecreasingBy}
use Rattle.std.proofs.lemmas.Bool.{cases_Bool, cases_lt, or_cases, or_left, or_right, leb-true, leb-false, lt-ltb, le-leb, eq-eqb}
use Rattle.std.proofs.lemmas.Bool.Decides.{nat_tests}
use Rattle.std.proofs.lemmas.List.{take_all}
use Rattle.std.proofs.lemmas.List.Elements.{All-weaker, recursion_from_All}
use Rattle.std.proofs.lemmas.List.Sorted.{list_any-IsPermutation, All-permutation}
use Rattle.rv_code.specs.Ordered.{rising}
use Rattle.rv_code.specs.declared.extent.Extent.{Extent}
use Rattle.rv_code.specs.Code.{extent_end, is_word_of, is_code}
use Rattle.rv_code.specs.Places.{code_addresses, IsCodeExtent, AreCodeExtents, extents_at}
use Rattle.rv_code.proofs.LawsOfLists.{Climbs, Climbs-lower, Climbs-from_non_decreasing, is_rising}
use Rattle.rv_code.proofs.LawsOfPlaces.{is_code-by_starts, by_starts-is_code, starts_aligned, is_code-Contains, Contains-is_code, code_addresses-IsStrictlyIncreasing, extents_at-code_addresses}
use Rattle.rv_code.proofs.LawsOfTests.{same_answers}
use Rattle.elf_image.specs.Inner.Parts.{IsPart, touches, united, joined_from, joined_of}

abbrev start_of : Extent → ℕ
start_of extent = extent.start

-- where a word of an extent stands
pub lies : (extent : Extent) (address : ℕ) → is_word_of extent address ≡ true → (extent.start ≤ address) × (address < extent_end extent) × (address % 4 ≡ 0)
lies extent address is = grind (arith, nat_tests)

pub stands : (extent : Extent) (address : ℕ) → extent.start ≤ address → address < extent_end extent → address % 4 ≡ 0 → is_word_of extent address ≡ true
stands extent address above below aligned =
    let low : leb extent.start address ≡ true = le-leb extent.start address above in
    let high : ltb address (extent_end extent) ≡ true = lt-ltb address (extent_end extent) below in
    let whole : eqb (address % 4) 0 ≡ true = eq-eqb (address % 4) 0 aligned in
    rw (low, high, whole)

united-end : (extent part : Extent) → extent.start % 4 ≡ 0 → part.start % 4 ≡ 0 → extent.start ≤ part.start
    → extent_end (united extent part) ≡ max (extent_end extent) (extent_end part)
united-end extent part one other order =
    let whole : 4 * ((part.start - extent.start) / 4) ≡ part.start - extent.start = omega arith in
    omega arith

united-IsPart : (extent part : Extent) → IsPart extent → IsPart part → extent.start ≤ part.start → IsPart (united extent part)
united-IsPart extent part one other order =
    let some = one.run.some in
    let end = united-end extent part one.run.aligned other.run.aligned order in
    record {
      run = record { some = omega arith; aligned = one.run.aligned };
      ends = omega (arith, end, one.ends, other.ends);
    }

united-is_word_of : (extent part : Extent) (address : ℕ) → IsPart extent → IsPart part → extent.start ≤ part.start → part.start ≤ extent_end extent
    → is_word_of (united extent part) address ≡ (is_word_of extent address || is_word_of part address)
united-is_word_of extent part address one other order near =
    let end = united-end extent part one.run.aligned other.run.aligned order in
    same_answers _ _
    (λ here.
    let (above, below, aligned) = lies (united extent part) address here in
    elim (cases_lt address (extent_end extent)) [
      | inl inside ↦ or_left (is_word_of extent address) (is_word_of part address) (stands extent address above inside aligned)
      | inr past ↦ or_right (is_word_of extent address) (is_word_of part address) (stands part address (omega arith) (omega arith) aligned)
    ])
    (λ either. elim (or_cases (is_word_of extent address) (is_word_of part address) either) [
      | inl first ↦
          let (above, below, aligned) = lies extent address first in
          stands (united extent part) address above (omega arith) aligned
      | inr second ↦
          let (above, below, aligned) = lies part address second in
          stands (united extent part) address (omega arith) (omega arith) aligned
    ])

-- what joined extents are, whose first starts at `start`
abbrev StartsAt : ℕ → List Extent → Type 0
StartsAt start [] = ⊥
StartsAt start (extent ∷ extents) = extent.start ≡ start

record IsJoined (extent : Extent) (parts extents : List Extent) : Type 0 where
  start : StartsAt extent.start extents
  runs : AreCodeExtents extents
  code : (address : ℕ) → is_code extents address ≡ is_code (extent ∷ parts) address

put_in_front : (extent part : Extent) (parts extents : List Extent) → IsPart extent → extent_end extent < part.start → IsJoined part parts extents → IsJoined extent (part ∷ parts) (extent ∷ extents)
put_in_front extent part parts [] is far joined = absurd joined.start
put_in_front extent part parts (next ∷ extents) is far joined =
    record {
      start = refl;
      runs = record {
        each = (is.run, joined.runs.each);
        rise = (omega (arith, far, joined.start), joined.runs.rise);
      };
      code = λ address. ap (λ b. is_word_of extent address || b) (joined.code address);
    }

or_regroup : (a b c d : Bool) → d ≡ (a || b) → (d || c) ≡ (a || (b || c))
or_regroup true b c d same = ap (λ t. t || c) same
or_regroup false b c d same = ap (λ t. t || c) same

joined_from-IsJoined : (extent : Extent) (parts : List Extent) → IsPart extent → AllByRecursion IsPart parts → Climbs start_of extent.start parts
    → IsJoined extent parts (joined_from extent parts)
joined_from-IsJoined extent [] is each climbs =
    record { start = refl; runs = record { each = (is.run, tt); rise = tt }; code = λ address. refl }
joined_from-IsJoined extent (part ∷ parts) is each climbs = elim (cases_Bool (touches extent part)) [
  | inl near ↦
      let order : extent.start ≤ part.start = climbs.0 in
      let within : part.start ≤ extent_end extent = leb-true part.start (extent_end extent) near in
      let joined = joined_from-IsJoined (united extent part) parts (united-IsPart extent part is each.0 order) each.1
      (Climbs-lower start_of extent.start part.start parts order climbs.1)
      in
      let both : IsJoined extent (part ∷ parts) (joined_from (united extent part) parts) =
      record {
        start = joined.start;
        runs = joined.runs;
        code = λ address. joined.code address
            ∙ or_regroup (is_word_of extent address) (is_word_of part address) (is_code parts address) (is_word_of (united extent part) address)
            (united-is_word_of extent part address is each.0 order within);
      }
      in
      subst (λ b. IsJoined extent (part ∷ parts) (cond b (joined_from (united extent part) parts) (extent ∷ joined_from part parts))) (sym near) both
  | inr apart ↦
      let far : extent_end extent < part.start = leb-false part.start (extent_end extent) apart in
      let behind = put_in_front extent part parts (joined_from part parts) is far (joined_from-IsJoined part parts each.0 each.1 climbs.1) in
      subst (λ b. IsJoined extent (part ∷ parts) (cond b (joined_from (united extent part) parts) (extent ∷ joined_from part parts))) (sym apart) behind
]

-- joined parts are runs, with the code words of the parts
record HasCodeOf (parts extents : List Extent) : Type 0 where
  runs : AreCodeExtents extents
  code : (address : ℕ) → is_code extents address ≡ is_code parts address

joined_of-HasCodeOf : (parts : List Extent) → AllByRecursion IsPart parts → Climbs start_of 0 parts → HasCodeOf parts (joined_of parts)
joined_of-HasCodeOf [] each climbs = record { runs = record { each = tt; rise = tt }; code = λ address. refl }
joined_of-HasCodeOf (part ∷ parts) each climbs =
    let joined = joined_from-IsJoined part parts each.0 each.1 climbs.1 in
    record { runs = joined.runs; code = joined.code }

-- the parts of sections, sorted and joined, are the runs of their words
pub joined_of-extents_at : (parts sorted : List Extent) (words : List ℕ) → All IsPart parts → IsPermutation parts sorted → IsNonDecreasingBy (λ (part : Extent). part.start) sorted
    → code_addresses parts ≡ words → joined_of sorted ≡ extents_at (rising words)
joined_of-extents_at parts sorted words each moved order same =
    let sorted_each : AllByRecursion IsPart sorted = recursion_from_All IsPart sorted (All-permutation IsPart parts sorted moved each) in
    let climbs : Climbs start_of 0 sorted = Climbs-from_non_decreasing start_of 0 sorted (λ d some. omega arith) order in
    let joined : HasCodeOf sorted (joined_of sorted) = joined_of-HasCodeOf sorted sorted_each climbs in
    let aligned = starts_aligned parts (recursion_from_All IsCodeExtent parts (All-weaker IsPart IsCodeExtent (λ extent is. is.run) parts each)) in
    let code : (address : ℕ) → is_code (joined_of sorted) address ≡ is_code parts address =
    λ address. joined.code address ∙ sym (list_any-IsPermutation (λ extent. is_word_of extent address) parts sorted moved)
    in
    let addresses : code_addresses (joined_of sorted) ≡ rising words =
    is_rising words (code_addresses (joined_of sorted)) (code_addresses-IsStrictlyIncreasing (joined_of sorted) joined.runs.rise)
    (λ address within.
    is_code-Contains (joined_of sorted) address joined.runs
    (code address ∙ by_starts-is_code parts address aligned (subst (λ xs. Contains xs address) (sym same) within)))
    (λ address within.
    subst (λ xs. Contains xs address) same
    (is_code-by_starts parts address aligned (sym (code address) ∙ Contains-is_code (joined_of sorted) address joined.runs within)))
    in
    sym (extents_at-code_addresses (joined_of sorted) joined.runs) ∙ ap extents_at addresses

-- joining leaves no more extents than there were
length-joined_from : (extent : Extent) (parts : List Extent) → length (joined_from extent parts) ≤ length parts + 1
length-joined_from extent [] = omega arith
length-joined_from extent (part ∷ parts) = elim (cases_Bool (touches extent part)) [
  | inl near ↦
      let fewer = length-joined_from (united extent part) parts in
      rw near (omega arith)
  | inr apart ↦
      let fewer = length-joined_from part parts in
      rw apart (omega arith)
]

pub length-joined_of : (parts : List Extent) → length (joined_of parts) ≤ length parts
length-joined_of [] = omega arith
length-joined_of (part ∷ parts) = omega (arith, length-joined_from part parts)

-- a list that isn't empty, by its first element and the rest
pub first_and_rest : {X : Type 0} (xs : List X) (d : X) → 0 < length xs → get_or xs 0 d ∷ take (length xs - 1) (drop 1 xs) ≡ xs
first_and_rest [] d some = absurd (omega arith)
first_and_rest (x ∷ xs) d some =
    let less : length (x ∷ xs) - 1 ≡ length xs = omega arith in
    ap (λ n. x ∷ take n xs) less ∙ ap (λ ys. x ∷ ys) (take_all (length xs) xs (omega arith))

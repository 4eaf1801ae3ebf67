-- Stretches that start at an address or before it, and the place of a code word in the last of them.
use Rattle.std.proofs.Common.{◌≡◌, ℕ, zero, suc, ◌+◌, ◌-◌, ◌*◌, ◌/◌, ◌%◌, ◌<◌, ◌≤◌, true, false, cond, List, [], ◌∷◌, length, take, drop, get_or, Some, None, refl, ap, ◌∙◌, inl, inr, arith}
use Rattle.std.specs.List.Sorted.{IsNonDecreasingBy, IsPartitionPoint}
use Rattle.std.proofs.lemmas.Bool.{cases_Bool, le-ltb, or_from}
use Rattle.std.proofs.lemmas.Bool.Decides.{nat_tests}
use Rattle.std.proofs.lemmas.List.FromFn.{get_or-map-range_with_len, length-map-range_with_len}
use Rattle.std.proofs.lemmas.List.Sums.{sum_by-cons}
use Rattle.rv_code.specs.declared.extent.Extent.{Extent}
use Rattle.rv_code.specs.Code.{extent_end, is_code, is_word_of}
use Rattle.rv_code.specs.Places.{ExtentsRise, address_of, place_of}
use Rattle.rv_code.proofs.LawsOfLists.{Climbs, non_decreasing_from_Climbs}
use Rattle.rv_code.proofs.LawsOfLookUps.{address_of-cons, is_some-place_of, place_of-address_of}
use Rattle.rv_code.proofs.LawsOfPlaces.{ExtentsRise-rest}
use Rattle.rv_code.proofs.LawsOfTests.{none_there}
use Rattle.schema_form.specs.Layout.{words_before, words_total}
use Rattle.schema_form.specs.Valid.{AreStretches}
use Rattle.schema_form.proofs.LookedUp.{address_here, aligned_at, total_less, total_more}

starts_climb : (stretch : Extent) (stretches : List Extent) → ExtentsRise (stretch ∷ stretches) → Climbs (λ (s : Extent). s.start) stretch.start stretches
starts_climb stretch [] rise = tt
starts_climb stretch (next ∷ stretches) rise = (omega (arith, rise.0), starts_climb next stretches rise.1)

pub starts_rise : (stretches : List Extent) → ExtentsRise stretches → IsNonDecreasingBy (λ (s : Extent). s.start) stretches
starts_rise [] rise = non_decreasing_from_Climbs (λ (s : Extent). s.start) 0 [] tt
starts_rise (stretch ∷ stretches) rise =
    non_decreasing_from_Climbs (λ (s : Extent). s.start) stretch.start (stretch ∷ stretches) (omega arith, starts_climb stretch stretches rise)

-- where a word of a stretch stands
lies_in : (stretch : Extent) (address : ℕ) → is_word_of stretch address ≡ true → (stretch.start ≤ address) × (address < stretch.start + 4 * stretch.count) × (address % 4 ≡ 0)
lies_in stretch address is = grind (arith, nat_tests)

outside : (stretch : Extent) (address : ℕ) → (stretch.start ≤ address → address < extent_end stretch → ⊥) → is_word_of stretch address ≡ false
outside stretch address out = elim (cases_Bool (is_word_of stretch address)) [
  | inl here ↦ let lies = lies_in stretch address here in absurd (out lies.0 lies.1)
  | inr there ↦ there
]

-- the word at an address stands in the last stretch that starts at it or before it, or there is none
no_code : (stretches : List Extent) (count address : ℕ) → ExtentsRise stretches → count ≤ length stretches
    → IsPartitionPoint (λ (s : Extent). s.start ≤ address) (λ (s : Extent). address < s.start) stretches count
    → ((number : ℕ) (d : Extent) → number + 1 ≡ count → is_word_of (get_or stretches number d) address ≡ false)
    → is_code stretches address ≡ false
no_code [] count address rise few point last = refl
no_code (stretch ∷ stretches) zero address rise few point last =
    let later : address < stretch.start = point.1 0 stretch (omega arith) (omega arith) in
    or_from _ _ (outside stretch address (λ from to. omega arith))
    (no_code stretches 0 address (ExtentsRise-rest stretch stretches rise) (omega arith)
    (λ k d above below. absurd (omega arith), λ k d above below. point.1 (suc k) d (omega arith) (omega arith)) (λ number d is. absurd (omega arith)))
no_code (stretch ∷ stretches) (suc zero) address rise few point last =
    or_from _ _ (last 0 stretch (omega arith))
    (no_code stretches 0 address (ExtentsRise-rest stretch stretches rise) (omega arith)
    (λ k d above below. absurd (omega arith), λ k d above below. point.1 (suc k) d (omega arith) (omega arith)) (λ number d is. absurd (omega arith)))
no_code (stretch ∷ []) (suc (suc count)) address rise few point last = absurd (omega arith)
no_code (stretch ∷ next ∷ stretches) (suc (suc count)) address rise few point last =
    let begun : next.start ≤ address = point.0 1 stretch (omega arith) (omega arith) in
    or_from _ _ (outside stretch address (λ from to. omega (arith, rise.0)))
    (no_code (next ∷ stretches) (suc count) address rise.1 (omega arith)
    (λ k d above below. point.0 (suc k) d (omega arith) (omega arith), λ k d above below. point.1 (suc k) d (omega arith) (omega arith))
    (λ number d is. last (suc number) d (omega arith)))

address_behind : (stretches : List Extent) (index left : ℕ) → index ≤ length stretches
    → address_of stretches (words_total (take index stretches) + left) ≡ address_of (drop index stretches) left
address_behind stretches zero left few = let all : 0 + left ≡ left = omega arith in ap (address_of stretches) all
address_behind [] (suc index) left few = absurd (omega arith)
address_behind (stretch ∷ stretches) (suc index) left few =
    let rest = words_total (take index stretches) in
    let total : words_total (take (suc index) (stretch ∷ stretches)) ≡ stretch.count + rest = sum_by-cons (λ (s : Extent). s.count) stretch (take index stretches) in
    let place : ℕ = words_total (take (suc index) (stretch ∷ stretches)) + left in
    let behind : place - stretch.count ≡ rest + left = omega (arith, total) in
    address_of-cons stretch stretches place
    ∙ ap (λ t. cond t (Some (stretch.start + 4 * place)) (address_of stretches (place - stretch.count))) (le-ltb place stretch.count (omega (arith, total)))
    ∙ ap (address_of stretches) behind
    ∙ address_behind stretches index left (omega arith)

-- where as many start at the address or before it as are counted, it is in the last of these
module _ (items : List Extent) (address : ℕ) (are : AreStretches items) where
  pub no_place : (count : ℕ) → count ≤ length items
      → IsPartitionPoint (λ (s : Extent). s.start ≤ address) (λ (s : Extent). address < s.start) items count
      → ((number : ℕ) (d : Extent) → number + 1 ≡ count → is_word_of (get_or items number d) address ≡ false) → place_of items address ≡ None
  no_place count few point last =
      none_there (place_of items address) (is_some-place_of items address are.extents.each ∙ no_code items count address are.extents.rise few point last)

  module _ (index : ℕ) (item : Extent) (within : index < length items) (is : item ≡ get_or items index item) (here : is_word_of item address ≡ true) where
    pub place_there : place_of items address ≡ Some (words_total (take index items) + (address - item.start) / 4)
    place_there =
        let lies = lies_in item address here in
        let aligned = aligned_at items index item within is are in
        let same : item.start + 4 * ((address - item.start) / 4) ≡ address = omega (arith, lies.0, lies.2, aligned) in
        place_of-address_of items (words_total (take index items) + (address - item.start) / 4) address are.extents.rise
        (address_behind items index ((address - item.start) / 4) (omega arith)
        ∙ address_here items index item within is ((address - item.start) / 4) (omega (arith, lies.0, lies.1))
        ∙ ap Some same)

    pub place_within : words_total (take index items) + (address - item.start) / 4 < words_total items
    place_within =
        let lies = lies_in item address here in
        omega (arith, lies.0, lies.1, total_more items index item within is, total_less items index item within is)

-- how many words stand before the stretch with a number
module _ (items : List Extent) (before : List ℕ) (are : before ≡ words_before items) where
  pub before_length : length before ≡ length items
  before_length = ap (length {A = ℕ}) are ∙ length-map-range_with_len (λ number. words_total (take number items)) 0 (length items)

  pub before_at : (index d : ℕ) → index < length items → get_or before index d ≡ words_total (take index items)
  before_at index d within =
      ap (λ (list : List ℕ). get_or list index d) are ∙ get_or-map-range_with_len (λ number. words_total (take number items)) 0 (length items) index index d within (omega arith)

-- Which code words stand behind which: the next address, or the start of a range.
use Rattle.std.proofs.Common.{◌≡◌, ℕ, zero, suc, ◌+◌, ◌-◌, ◌*◌, ◌%◌, ◌^◌, ◌<◌, ◌≤◌, true, cond, ◌||◌, List, [], ◌∷◌, length, map, get_or, Option, Some, None, refl, sym, ap, ◌∙◌, inl, inr, ◌⊎◌, arith}
use Rattle.std.specs.Prelude.{is_some}
use Rattle.std.specs.List.{AllByRecursion, Contains}
use Rattle.std.proofs.lemmas.Bool.{cases_Bool, cases_lt, lt-ltb, le-ltb}
use Rattle.std.proofs.lemmas.Bool.Decides.{nat_tests}
use Rattle.std.proofs.lemmas.Option.{slice_get_within, slice_get-get_or, get_or_from_slice_get}
use Rattle.rv_code.specs.declared.extent.Extent.{Extent}
use Rattle.rv_code.specs.Code.{is_code, is_word_of}
use Rattle.rv_code.specs.Places.{address_of, code_addresses, place_of, AreCodeExtents, EndsInSpace, IsCodeExtent}
use Rattle.rv_code.proofs.LawsOfLookUps.{address_of-cons, address_of-place_of, address_of-rises, is_some-place_of}
use Rattle.rv_code.proofs.LawsOfPlaces.{Contains-is_code}
use Rattle.rv_code.proofs.LawsOfTests.{same_found}

at_front : (extent : Extent) (extents : List Extent) (place : ℕ) → place < extent.count → address_of (extent ∷ extents) place ≡ Some (extent.start + 4 * place)
at_front extent extents place inside =
    address_of-cons extent extents place ∙ ap (λ b. cond b (Some (extent.start + 4 * place)) (address_of extents (place - extent.count))) (lt-ltb place extent.count inside)

at_back : (extent : Extent) (extents : List Extent) (place : ℕ) → extent.count ≤ place → address_of (extent ∷ extents) place ≡ address_of extents (place - extent.count)
at_back extent extents place behind =
    address_of-cons extent extents place ∙ ap (λ b. cond b (Some (extent.start + 4 * place)) (address_of extents (place - extent.count))) (le-ltb place extent.count behind)

abbrev pub starts_of : List Extent → List ℕ
starts_of extents = map (λ (extent : Extent). extent.start) extents

-- the first code word stands at a start
pub first_word : (extents : List Extent) (address : ℕ) → AllByRecursion IsCodeExtent extents → address_of extents 0 ≡ Some address → Contains (starts_of extents) address
first_word [] address each is = absurd (cc is)
first_word (extent ∷ extents) address each is =
    let same : extent.start + 4 * 0 ≡ address = same_found (extent.start + 4 * 0) address (address_of (extent ∷ extents) 0) (at_front extent extents 0 each.0.some) is in
    (zero, omega arith, omega (arith, same))

later : (x address : ℕ) (xs : List ℕ) → Contains xs address → Contains (x ∷ xs) address
later x address xs within = (suc within.0, omega (arith, within.1), within.2)

pub next_word : (extents : List Extent) (place address next : ℕ) → AllByRecursion IsCodeExtent extents → address_of extents place ≡ Some address → address_of extents (place + 1) ≡ Some next
    → (next ≡ address + 4) ⊎ Contains (starts_of extents) next
next_word [] place address next each is behind = absurd (cc is)
next_word (extent ∷ extents) place address next each is behind = elim (cases_lt (place + 1) extent.count) [
  | inl both ↦
      let one : extent.start + 4 * place ≡ address = same_found _ _ _ (at_front extent extents place (omega (arith, both))) is in
      let two : extent.start + 4 * (place + 1) ≡ next = same_found _ _ _ (at_front extent extents (place + 1) both) behind in
      inl (omega (arith, one, two))
  | inr past ↦ elim (cases_lt place extent.count) [
    | inl last ↦
        let at : place + 1 - extent.count ≡ 0 = omega (arith, past, last) in
        let first : address_of extents 0 ≡ Some next = ap (address_of extents) (sym at) ∙ (sym (at_back extent extents (place + 1) past) ∙ behind) in
        inr (later extent.start next (starts_of extents) (first_word extents next each.1 first))
    | inr beyond ↦
        let at : place + 1 - extent.count ≡ place - extent.count + 1 = omega (arith, beyond) in
        let here : address_of extents (place - extent.count) ≡ Some address = sym (at_back extent extents place beyond) ∙ is in
        let there : address_of extents (place - extent.count + 1) ≡ Some next = ap (address_of extents) (sym at) ∙ (sym (at_back extent extents (place + 1) past) ∙ behind) in
        elim (next_word extents (place - extent.count) address next each.1 here there) [
          | inl close ↦ inl close
          | inr start ↦ inr (later extent.start next (starts_of extents) start)
        ]
  ]
]

word_facts : (extent : Extent) (address : ℕ) → EndsInSpace extent → is_word_of extent address ≡ true → (address % 4 ≡ 0) × (address < 2 ^ 32)
word_facts extent address ends is = grind (arith, nat_tests)

-- a code word stands at a multiple of four, in the address space
pub code_facts : (extents : List Extent) (address : ℕ) → AllByRecursion EndsInSpace extents → is_code extents address ≡ true → (address % 4 ≡ 0) × (address < 2 ^ 32)
code_facts [] address ends is = absurd (cc is)
code_facts (extent ∷ extents) address ends is = elim (cases_Bool (is_word_of extent address)) [
  | inl here ↦ word_facts extent address ends.0 here
  | inr elsewhere ↦ code_facts extents address ends.1 (sym (ap (λ b. b || is_code extents address) elsewhere) ∙ is)
]

-- a code word at the place
pub code_at : (extents : List Extent) (place address : ℕ) → AreCodeExtents extents → address_of extents place ≡ Some address → is_code extents address ≡ true
code_at extents place address order is =
    Contains-is_code extents address order (place, slice_get_within (code_addresses extents) place address is, get_or_from_slice_get (code_addresses extents) place address _ is)

found_place : (found : Option ℕ) → is_some found ≡ true → (place : ℕ) × (found ≡ Some place)
found_place None is = absurd (cc is)
found_place (Some place) is = (place, refl)

-- where a code word stands at the next address, it has the next place
pub adjacent : (extents : List Extent) (place address : ℕ) → AreCodeExtents extents → AllByRecursion EndsInSpace extents → address_of extents place ≡ Some address → is_code extents (address + 4) ≡ true
    → address_of extents (place + 1) ≡ Some (address + 4)
adjacent extents place address order ends is code =
    let (other, found) = found_place (place_of extents (address + 4)) (is_some-place_of extents (address + 4) order.each ∙ code) in
    let there : address_of extents other ≡ Some (address + 4) = address_of-place_of extents other (address + 4) found in
    elim (cases_lt place other) [
      | inl behind ↦ elim (cases_lt (place + 1) other) [
        | inl between ↦
            let words : List ℕ = code_addresses extents in
            let inside : other < length words = slice_get_within words other (address + 4) there in
            let next : address_of extents (place + 1) ≡ Some (get_or words (place + 1) 0) = slice_get-get_or words (place + 1) 0 (omega (arith, inside, between)) in
            let low = address_of-rises extents place (place + 1) address (get_or words (place + 1) 0) order.rise (omega arith) is next in
            let high = address_of-rises extents (place + 1) other (get_or words (place + 1) 0) (address + 4) order.rise between next there in
            let one = code_facts extents address ends (code_at extents place address order is) in
            let two = code_facts extents (get_or words (place + 1) 0) ends (code_at extents (place + 1) (get_or words (place + 1) 0) order next) in
            absurd (omega (arith, low, high, one.0, two.0))
        | inr close ↦
            let same : other ≡ place + 1 = omega (arith, behind, close) in
            ap (address_of extents) (sym same) ∙ there
      ]
      | inr before ↦ elim (cases_lt other place) [
        | inl less ↦ let falls = address_of-rises extents other place (address + 4) address order.rise less there is in absurd (omega (arith, falls))
        | inr not_less ↦
            let same : other ≡ place = omega (arith, before, not_less) in
            let both : address + 4 ≡ address = same_found _ _ _ (ap (address_of extents) (sym same) ∙ there) is in
            absurd (omega (arith, both))
      ]
    ]

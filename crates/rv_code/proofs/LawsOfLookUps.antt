-- The places of code words: which address has which, and how a search over the extents finds it.
use Rattle.std.proofs.Common.{◌≡◌, ℕ, zero, suc, ◌+◌, ◌-◌, ◌*◌, ◌/◌, ◌%◌, ◌<◌, ◌≤◌, Bool, true, false, cond, eqb, ltb, List, [], ◌∷◌, ◌++◌, length, get_or, map, take, drop, Option, Some, None, sym, refl, ap, ◌∙◌, subst, inl, inr, arith, zero-add, take_all}
use Rattle.std.specs.Prelude.{◌||◌, is_some, position, slice_get}
use Rattle.std.specs.Option.{option_map}
use Rattle.std.specs.List.{AllByRecursion, Contains, position_or_len}
use Rattle.std.proofs.lemmas.Bool.{cases_Bool, cases_eq, cases_lt, lt-ltb, le-ltb, eq-eqb, ne_eqb}
use Rattle.std.proofs.lemmas.Bool.Decides.{nat_tests}
use Rattle.std.proofs.lemmas.Option.{slice_get_within, slice_get-get_or, slice_get_past, get_or_from_slice_get}
use Rattle.std.proofs.lemmas.List.Kept.{AllPairs-from_increasing}
use Rattle.std.proofs.lemmas.List.Sums.{sum_by-cons}
use Rattle.rv_code.specs.declared.extent.Extent.{Extent}
use Rattle.rv_code.specs.declared.image.Range.{Range}
use Rattle.rv_code.specs.Code.{extent_of, extents_of, is_word_of, is_code, code_word}
use Rattle.rv_code.specs.Image.{word_count}
use Rattle.rv_code.specs.Places.{words_of, code_addresses, place_of, address_of, IsCodeExtent, ExtentsRise}
use Rattle.rv_code.proofs.LawsOfLists.{Rises, Rises-from_IsStrictlyIncreasing}
use Rattle.rv_code.proofs.LawsOfPlaces.{words_from, length-words_of, Contains-is_word_of, code_addresses-IsStrictlyIncreasing, length-code_addresses_of_ranges}

-- the place of a number in a list, by recursion
abbrev place_in : List ℕ → ℕ → Option ℕ
place_in [] address = None
place_in (word ∷ words) address = cond (eqb word address) (Some 0) (option_map (λ place. 1 + place) (place_in words address))

position-cons : (test : ℕ → Bool) (x : ℕ) (xs : List ℕ) → position test (x ∷ xs) ≡ cond (test x) (Some 0) (option_map (λ place. 1 + place) (position test xs))
position-cons test x xs = elim (cases_Bool (test x)) [
  | inl passes ↦
      let within : ltb 0 (suc (length xs)) ≡ true = lt-ltb 0 (suc (length xs)) (omega arith) in
      rw passes (rw within)
  | inr fails ↦
      let next : length (x ∷ xs) ≡ suc (length xs) = refl in
      rw fails (elim (cases_lt (position_or_len test xs) (length xs)) [
        | inl found ↦
            let here : ltb (position_or_len test xs) (length xs) ≡ true = lt-ltb (position_or_len test xs) (length xs) found in
            let there : ltb (1 + position_or_len test xs) (suc (length xs)) ≡ true = lt-ltb (1 + position_or_len test xs) (suc (length xs)) (omega arith) in
            rw (here, there)
        | inr none ↦
            let here : ltb (position_or_len test xs) (length xs) ≡ false = le-ltb (position_or_len test xs) (length xs) none in
            let there : ltb (1 + position_or_len test xs) (suc (length xs)) ≡ false = le-ltb (1 + position_or_len test xs) (suc (length xs)) (omega arith) in
            rw (here, there)
      ])
]

position-place_in : (words : List ℕ) (address : ℕ) → position (λ word. eqb word address) words ≡ place_in words address
position-place_in [] address = refl
position-place_in (word ∷ words) address =
    position-cons (λ word. eqb word address) word words
    ∙ ap (λ found. cond (eqb word address) (Some 0) (option_map (λ place. 1 + place) found)) (position-place_in words address)

place_in-later : (word : ℕ) (words : List ℕ) (address : ℕ) → (word ≡ address → ⊥) → place_in (word ∷ words) address ≡ option_map (λ place. 1 + place) (place_in words address)
place_in-later word words address other =
    ap (λ b. cond b (Some 0) (option_map (λ place. 1 + place) (place_in words address))) (ne_eqb word address other)

place_in-first : (word : ℕ) (words : List ℕ) (address : ℕ) → word ≡ address → place_in (word ∷ words) address ≡ Some 0
place_in-first word words address same =
    ap (λ b. cond b (Some 0) (option_map (λ place. 1 + place) (place_in words address))) (eq-eqb word address same)

pub option_map-sum : (one other all : ℕ) (found : Option ℕ) → one + other ≡ all → option_map (λ place. one + place) (option_map (λ place. other + place) found) ≡ option_map (λ place. all + place) found
option_map-sum one other all None is = refl
option_map-sum one other all (Some place) is = ap Some (omega arith)

option_map-none : (found : Option ℕ) → found ≡ option_map (λ place. 0 + place) found
option_map-none None = refl
option_map-none (Some place) = ap Some (sym (zero-add place))

-- an address that isn't in the first of two lists
place_in-skip : (front back : List ℕ) (address : ℕ) → (Contains front address → ⊥) → place_in (front ++ back) address ≡ option_map (λ place. length front + place) (place_in back address)
place_in-skip [] back address absent = option_map-none (place_in back address)
place_in-skip (word ∷ front) back address absent =
    place_in-later word (front ++ back) address (λ same. absent (0, omega arith, same))
    ∙ (ap (option_map (λ place. 1 + place)) (place_in-skip front back address (λ (place, inside, same). absent (suc place, omega arith, same)))
    ∙ option_map-sum 1 (length front) (length (word ∷ front)) (place_in back address) (omega arith))

-- an address among so many from a start on
place_in-words : (start first count number address : ℕ) (back : List ℕ) → first ≤ number → number < first + count → address ≡ start + 4 * number → place_in (words_from start first count ++ back) address ≡ Some (number - first)
place_in-words start first zero number address back above below is = absurd (omega arith)
place_in-words start first (suc count) number address back above below is = elim (cases_lt first number) [
  | inl less ↦
      place_in-later (start + 4 * first) (words_from start (first + 1) count ++ back) address (λ same. omega arith)
      ∙ (ap (option_map (λ place. 1 + place)) (place_in-words start (first + 1) count number address back (omega arith) (omega arith) is) ∙ ap Some (omega arith))
  | inr not_less ↦
      place_in-first (start + 4 * first) (words_from start (first + 1) count ++ back) address (omega arith) ∙ ap Some (omega arith)
]

-- a search for the place of an address, extent by extent
pub place_of-cons : (extent : Extent) (extents : List Extent) (address : ℕ) → extent.start % 4 ≡ 0
    → place_of (extent ∷ extents) address
    ≡ cond (is_word_of extent address) (Some ((address - extent.start) / 4)) (option_map (λ place. extent.count + place) (place_of extents address))
place_of-cons extent extents address aligned = elim (cases_Bool (is_word_of extent address)) [
  | inl here ↦
      let lies : (extent.start ≤ address) × (address < extent.start + 4 * extent.count) × (address % 4 ≡ 0) = grind (arith, nat_tests) in
      let found : place_in (code_addresses (extent ∷ extents)) address ≡ Some ((address - extent.start) / 4) =
      place_in-words extent.start 0 extent.count ((address - extent.start) / 4) address (code_addresses extents) (omega arith) (omega arith) (omega arith)
      ∙ ap Some (omega arith)
      in
      position-place_in (code_addresses (extent ∷ extents)) address
      ∙ (found ∙ ap (λ b. cond b (Some ((address - extent.start) / 4)) (option_map (λ place. extent.count + place) (place_of extents address))) (sym here))
  | inr elsewhere ↦
      let absent : Contains (words_of extent) address → ⊥ = λ within. absurd (cc (Contains-is_word_of extent address aligned within)) in
      let skipped : place_in (code_addresses (extent ∷ extents)) address ≡ option_map (λ place. extent.count + place) (place_in (code_addresses extents) address) =
      subst (λ n. place_in (code_addresses (extent ∷ extents)) address ≡ option_map (λ place. n + place) (place_in (code_addresses extents) address)) (length-words_of extent)
      (place_in-skip (words_of extent) (code_addresses extents) address absent)
      in
      position-place_in (code_addresses (extent ∷ extents)) address
      ∙ (skipped
      ∙ (ap (option_map (λ place. extent.count + place)) (sym (position-place_in (code_addresses extents) address))
      ∙ ap (λ b. cond b (Some ((address - extent.start) / 4)) (option_map (λ place. extent.count + place) (place_of extents address))) (sym elsewhere)))
]

slice_get-words : (start first count place : ℕ) (back : List ℕ) → place < count → slice_get (words_from start first count ++ back) place ≡ Some (start + 4 * (first + place))
slice_get-words start first zero place back inside = absurd (omega arith)
slice_get-words start first (suc count) zero back inside = ap Some (omega arith)
slice_get-words start first (suc count) (suc place) back inside =
    slice_get-words start (first + 1) count place back (omega arith) ∙ ap Some (omega arith)

slice_get-behind : (front back : List ℕ) (place : ℕ) → length front ≤ place → slice_get (front ++ back) place ≡ slice_get back (place - length front)
slice_get-behind [] back place behind = let same : place ≡ place - 0 = omega arith in ap (slice_get back) same
slice_get-behind (word ∷ front) back zero behind = absurd (omega arith)
slice_get-behind (word ∷ front) back (suc place) behind =
    let same : place - length front ≡ suc place - length (word ∷ front) = omega arith in
    slice_get-behind front back place (omega arith) ∙ ap (slice_get back) same

-- a search for the address at a place, extent by extent
pub address_of-cons : (extent : Extent) (extents : List Extent) (place : ℕ)
    → address_of (extent ∷ extents) place ≡ cond (ltb place extent.count) (Some (extent.start + 4 * place)) (address_of extents (place - extent.count))
address_of-cons extent extents place = elim (cases_lt place extent.count) [
  | inl inside ↦
      let here : slice_get (code_addresses (extent ∷ extents)) place ≡ Some (extent.start + 4 * (0 + place)) = slice_get-words extent.start 0 extent.count place (code_addresses extents) inside in
      here ∙ (ap (λ n. Some (extent.start + 4 * n)) (zero-add place)
      ∙ ap (λ b. cond b (Some (extent.start + 4 * place)) (address_of extents (place - extent.count))) (sym (lt-ltb place extent.count inside)))
  | inr behind ↦
      let words : length (words_of extent) ≡ extent.count = length-words_of extent in
      let rest : address_of (extent ∷ extents) place ≡ slice_get (code_addresses extents) (place - length (words_of extent)) =
      slice_get-behind (words_of extent) (code_addresses extents) place (omega arith)
      in
      rest ∙ (ap (λ n. slice_get (code_addresses extents) (place - n)) words
      ∙ ap (λ b. cond b (Some (extent.start + 4 * place)) (address_of extents (place - extent.count))) (sym (le-ltb place extent.count behind)))
]

-- what stands at a place of a list that rises is found there
Rises-place_in : (low : ℕ) (words : List ℕ) (place address : ℕ) → Rises low words → slice_get words place ≡ Some address → (low ≤ address) × (place_in words address ≡ Some place)
Rises-place_in low [] place address rises is = absurd (cc)
Rises-place_in low (word ∷ words) zero address rises is =
    let same : word ≡ address = cc in (omega (arith, rises.0), place_in-first word words address same)
Rises-place_in low (word ∷ words) (suc place) address rises is =
    let (above, found) = Rises-place_in (word + 1) words place address rises.1 is in (
      omega (arith, rises.0, above),
      place_in-later word words address (λ same. omega (arith, above))
          ∙ (ap (option_map (λ place. 1 + place)) found ∙ ap Some (omega arith)),
    )

-- a place's address has that place
pub place_of-address_of : (extents : List Extent) (place address : ℕ) → ExtentsRise extents → address_of extents place ≡ Some address → place_of extents address ≡ Some place
place_of-address_of extents place address rise is =
    let rises = Rises-from_IsStrictlyIncreasing 0 (code_addresses extents) (λ _. omega arith) (code_addresses-IsStrictlyIncreasing extents rise) in
    position-place_in (code_addresses extents) address ∙ (Rises-place_in 0 (code_addresses extents) place address rises is).1

one_before : (found : Option ℕ) (place : ℕ) → option_map (λ next. 1 + next) found ≡ Some place → (next : ℕ) × (found ≡ Some next) × (suc next ≡ place)
one_before None place is = absurd (cc)
one_before (Some next) place is = let sum : 1 + next ≡ place = cc in (next, refl, omega arith)

place_in-slice_get : (words : List ℕ) (place address : ℕ) → place_in words address ≡ Some place → slice_get words place ≡ Some address
place_in-slice_get [] place address is = absurd (cc)
place_in-slice_get (word ∷ words) place address is = elim (cases_eq word address) [
  | inl same ↦
      let first : place ≡ 0 = (let found = place_in-first word words address same in cc) in
      subst (λ n. slice_get (word ∷ words) n ≡ Some address) (sym first) (ap Some same)
  | inr other ↦
      let (next, found, past) = one_before (place_in words address) place (sym (place_in-later word words address other) ∙ is) in
      subst (λ n. slice_get (word ∷ words) n ≡ Some address) past (place_in-slice_get words next address found)
]

-- an address is that at its place
pub address_of-place_of : (extents : List Extent) (place address : ℕ) → place_of extents address ≡ Some place → address_of extents place ≡ Some address
address_of-place_of extents place address is =
    place_in-slice_get (code_addresses extents) place address (sym (position-place_in (code_addresses extents) address) ∙ is)

-- one range more
pub word_count-cons : (range : Range) (ranges : List Range) → word_count (range ∷ ranges) ≡ length range.words + word_count ranges
word_count-cons range ranges = sum_by-cons (λ n. n) (length range.words) (map (λ (range : Range). length range.words) ranges)

-- a place lies below the number of code words
pub place_of-below : (extents : List Extent) (place address : ℕ) → place_of extents address ≡ Some place → place < length (code_addresses extents)
place_of-below extents place address is = slice_get_within (code_addresses extents) place address (address_of-place_of extents place address is)

-- there is a code word exactly where one stands
pub is_some-code_word : (ranges : List Range) (address : ℕ) → is_some (code_word ranges address) ≡ is_code (extents_of ranges) address
is_some-code_word [] address = refl
is_some-code_word (range ∷ ranges) address = elim (cases_Bool (is_word_of (extent_of range) address)) [
  | inl here ↦
      let lies : (range.start ≤ address) × (address < range.start + 4 * length range.words) × (address % 4 ≡ 0) = grind (arith, nat_tests) in
      let found : is_some (slice_get range.words ((address - range.start) / 4)) ≡ true =
      ap is_some (slice_get-get_or range.words ((address - range.start) / 4) 0 (omega arith))
      in
      rw here found
  | inr elsewhere ↦ rw elsewhere (is_some-code_word ranges address)
]

is_some-option_map : (f : ℕ → ℕ) (found : Option ℕ) → is_some (option_map f found) ≡ is_some found
is_some-option_map f None = refl
is_some-option_map f (Some place) = refl

-- a code word has a place
pub is_some-place_of : (extents : List Extent) (address : ℕ) → AllByRecursion IsCodeExtent extents → is_some (place_of extents address) ≡ is_code extents address
is_some-place_of [] address runs = refl
is_some-place_of (extent ∷ extents) address runs =
    let rest : is_some (option_map (λ place. extent.count + place) (place_of extents address)) ≡ is_code extents address =
    is_some-option_map (λ place. extent.count + place) (place_of extents address) ∙ is_some-place_of extents address runs.1
    in
    ap is_some (place_of-cons extent extents address runs.0.aligned)
    ∙ either (is_word_of extent address) ((address - extent.start) / 4) (option_map (λ place. extent.count + place) (place_of extents address)) (is_code extents address) rest
  where
    either : (test : Bool) (here : ℕ) (found : Option ℕ) (there : Bool) → is_some found ≡ there → is_some (cond test (Some here) found) ≡ (test || there)
    either true here found there same = refl
    either false here found there same = same

is_some-slice_get : (words : List ℕ) (place : ℕ) → is_some (slice_get words place) ≡ ltb place (length words)
is_some-slice_get words place = elim (cases_lt place (length words)) [
  | inl inside ↦ ap is_some (slice_get-get_or words place 0 inside) ∙ sym (lt-ltb place (length words) inside)
  | inr past ↦ ap is_some (slice_get_past words place past) ∙ sym (le-ltb place (length words) past)
]

-- a place below their number has an address
pub is_some-address_of : (ranges : List Range) (place : ℕ) → is_some (address_of (extents_of ranges) place) ≡ ltb place (word_count ranges)
is_some-address_of ranges place =
    is_some-slice_get (code_addresses (extents_of ranges)) place ∙ ap (ltb place) (length-code_addresses_of_ranges ranges)

-- addresses rise with places
pub address_of-rises : (extents : List Extent) (one other low high : ℕ) → ExtentsRise extents → one < other → address_of extents one ≡ Some low → address_of extents other ≡ Some high → low < high
address_of-rises extents one other low high rise below first second =
    let pairs = AllPairs-from_increasing (code_addresses extents) (code_addresses-IsStrictlyIncreasing extents rise) one other 0 below (slice_get_within (code_addresses extents) other high second) in
    let lower : get_or (code_addresses extents) one 0 ≡ low = get_or_from_slice_get (code_addresses extents) one low 0 first in
    let higher : get_or (code_addresses extents) other 0 ≡ high = get_or_from_slice_get (code_addresses extents) other high 0 second in
    omega (arith, pairs)

-- a slice's first range and the others
abbrev pub others : List Range → List Range
others ranges = take (length ranges - 1) (drop 1 ranges)

first_and_others : (ranges : List Range) (range : Range) → 1 ≤ length ranges → range ≡ get_or ranges 0 range → ranges ≡ range ∷ others ranges
first_and_others [] range some is = absurd (omega arith)
first_and_others (first ∷ rest) range some is =
    let all : take (length (first ∷ rest) - 1) rest ≡ rest = take_all (length (first ∷ rest) - 1) rest (omega arith) in
    cc

-- a search over ranges, at the first of them and behind it
pub place_of-here : (ranges : List Range) (range : Range) (address : ℕ) → 1 ≤ length ranges → range ≡ get_or ranges 0 range → AllByRecursion IsCodeExtent (extents_of ranges)
    → is_word_of (extent_of range) address ≡ true → place_of (extents_of ranges) address ≡ Some ((address - range.start) / 4)
place_of-here ranges range address some is runs here =
    let whole = first_and_others ranges range some is in
    let first = subst (λ all. AllByRecursion IsCodeExtent (extents_of all)) whole runs in
    ap (λ all. place_of (extents_of all) address) whole
    ∙ (place_of-cons (extent_of range) (extents_of (others ranges)) address first.0.aligned
    ∙ ap (λ b. cond b (Some ((address - range.start) / 4)) (option_map (λ place. length range.words + place) (place_of (extents_of (others ranges)) address))) here)

pub place_of-behind : (ranges : List Range) (range : Range) (address : ℕ) (found : Option ℕ) → 1 ≤ length ranges → range ≡ get_or ranges 0 range → AllByRecursion IsCodeExtent (extents_of ranges)
    → is_word_of (extent_of range) address ≡ false → found ≡ place_of (extents_of (others ranges)) address
    → place_of (extents_of ranges) address ≡ option_map (λ place. length range.words + place) found
place_of-behind ranges range address found some is runs elsewhere same =
    let whole = first_and_others ranges range some is in
    let first = subst (λ all. AllByRecursion IsCodeExtent (extents_of all)) whole runs in
    ap (λ all. place_of (extents_of all) address) whole
    ∙ (place_of-cons (extent_of range) (extents_of (others ranges)) address first.0.aligned
    ∙ (ap (λ b. cond b (Some ((address - range.start) / 4)) (option_map (λ place. length range.words + place) (place_of (extents_of (others ranges)) address))) elsewhere
    ∙ ap (option_map (λ place. length range.words + place)) (sym same)))

pub address_of-here : (ranges : List Range) (range : Range) (place : ℕ) → 1 ≤ length ranges → range ≡ get_or ranges 0 range
    → place < length range.words → address_of (extents_of ranges) place ≡ Some (range.start + 4 * place)
address_of-here ranges range place some is inside =
    ap (λ all. address_of (extents_of all) place) (first_and_others ranges range some is)
    ∙ (address_of-cons (extent_of range) (extents_of (others ranges)) place
    ∙ ap (λ b. cond b (Some (range.start + 4 * place)) (address_of (extents_of (others ranges)) (place - length range.words))) (lt-ltb place (length range.words) inside))

pub address_of-behind : (ranges : List Range) (range : Range) (place : ℕ) → 1 ≤ length ranges → range ≡ get_or ranges 0 range
    → length range.words ≤ place → address_of (extents_of ranges) place ≡ address_of (extents_of (others ranges)) (place - length range.words)
address_of-behind ranges range place some is past =
    ap (λ all. address_of (extents_of all) place) (first_and_others ranges range some is)
    ∙ (address_of-cons (extent_of range) (extents_of (others ranges)) place
    ∙ ap (λ b. cond b (Some (range.start + 4 * place)) (address_of (extents_of (others ranges)) (place - length range.words))) (le-ltb place (length range.words) past))

-- The marked words are those of the slice, in order.
use Rattle.std.proofs.Common.{◌≡◌, ℕ, zero, suc, Bool, true, false, cond, List, [], ◌∷◌, get_or, Option, Some, None, refl, sym, ap, subst, ◌∙◌, inl, inr, arith}
use Rattle.std.specs.Prelude.{◌↔◌, filter, slice_get}
use Rattle.std.specs.List.{Contains}
use Rattle.std.specs.List.Sorted.{IsStrictlyIncreasing}
use Rattle.std.specs.Option.{option_map_or}
use Rattle.std.proofs.lemmas.Bool.{cases_Bool}
use Rattle.std.proofs.lemmas.List.Kept.{IsStrictlyIncreasing-filter}
use Rattle.std.proofs.lemmas.Option.{slice_get_within, get_or_from_slice_get}
use Rattle.rv_code.specs.declared.class.Class.TheVariants.{Plain, Load}
use Rattle.rv_code.specs.declared.image.Range.{Range}
use Rattle.rv_code.specs.Code.{extents_of}
use Rattle.rv_code.specs.Places.{code_addresses, place_of, AreCodeExtents}
use Rattle.rv_code.proofs.LawsOfLookUps.{address_of-place_of}
use Rattle.rv_code.proofs.LawsOfPlaces.{code_addresses-IsStrictlyIncreasing}
use Rattle.rv_code.proofs.LawsOfElements.{filter_Contains}
use Rattle.need_sets.specs.Masks.{AreNeeded, base_alone}
use Rattle.need_sets.specs.Needed.{IsKept, IsHard}
use Rattle.need_sets.specs.Words.{class_at}
use Rattle.need_sets.proofs.LawsOfNeeds.{used_has_place}
use Rattle.reach_slice.specs.Laws.{IsInSomeSlice}
use Rattle.reach_slice.specs.Marked.{is_marked, marked_words}
use Rattle.reach_slice.specs.Slices.{IsInSlice}
use Rattle.reach_slice.proofs.Joined.{used_in_slice, slice_is_used, used_in_some_slice, some_slice_is_used}

pub marked_rise : (code : List Range) (marks : List Bool) → AreCodeExtents (extents_of code) → IsStrictlyIncreasing (marked_words code marks)
marked_rise code marks order =
    IsStrictlyIncreasing-filter (is_marked code marks) (code_addresses (extents_of code)) (code_addresses-IsStrictlyIncreasing (extents_of code) order.rise)

in_filter : (p : ℕ → Bool) (xs : List ℕ) (x : ℕ) → Contains (filter p xs) x → p x ≡ true
in_filter p [] x (place, inside, is) = absurd (omega arith)
in_filter p (y ∷ ys) x within = elim (cases_Bool (p y)) [
  | inl here ↦ front p x y ys here (in_filter p ys x) (subst (λ b. Contains (cond b (y ∷ filter p ys) (filter p ys)) x) here within)
  | inr gone ↦ in_filter p ys x (subst (λ b. Contains (cond b (y ∷ filter p ys) (filter p ys)) x) gone within)
]
  where
    front : (p : ℕ → Bool) (x y : ℕ) (ys : List ℕ) → p y ≡ true → (Contains (filter p ys) x → p x ≡ true) → Contains (y ∷ filter p ys) x → p x ≡ true
    front p x y ys here rest (zero, inside, is) = ap p (sym is) ∙ here
    front p x y ys here rest (suc place, inside, is) = rest (place, omega arith, is)

slice_get-Contains : (xs : List ℕ) (place x : ℕ) → slice_get xs place ≡ Some x → Contains xs x
slice_get-Contains xs place x is = (place, slice_get_within xs place x is, get_or_from_slice_get xs place x x is)

-- a marked word has a place with a mark
marked_place : (code : List Range) (marks : List Bool) (address : ℕ) → is_marked code marks address ≡ true
    → (place : ℕ) × (place_of (extents_of code) address ≡ Some place) × (get_or marks place false ≡ true)
marked_place code marks address is = go (place_of (extents_of code) address) refl is
  where
    go : (o : Option ℕ) → place_of (extents_of code) address ≡ o → option_map_or (λ place. get_or marks place false) o false ≡ true
        → (place : ℕ) × (place_of (extents_of code) address ≡ Some place) × (get_or marks place false ≡ true)
    go None at none = absurd (cc none)
    go (Some place) at set = (place, at, set)

-- the marked words are exactly those of the slice
pub marked_is_slice : (code : List Range) (access : ℕ) (masks : List ℕ) (marks : List Bool) → AreCodeExtents (extents_of code)
    → AreNeeded code (base_alone code access) masks marks → (word : ℕ) → Contains (marked_words code marks) word ↔ IsInSlice code access word
marked_is_slice code access masks marks order are word = (
  (λ within.
      let (place, at, set) = marked_place code marks word (in_filter (is_marked code marks) (code_addresses (extents_of code)) word within) in
      used_in_slice code access word ((are.used place word (address_of-place_of (extents_of code) place word at)).0 set)),
  (λ slice.
      let used = slice_is_used code access word slice in
      let (place, is) = used_has_place code (base_alone code access) word order used in
      let at = address_of-place_of (extents_of code) place word is in
      let mark : is_marked code marks word ≡ true =
      ap (λ o. option_map_or (λ p. get_or marks p false) o false) is ∙ (are.used place word at).1 used
      in
      filter_Contains (is_marked code marks) (code_addresses (extents_of code)) word (slice_get-Contains (code_addresses (extents_of code)) place word at) mark),
)

-- a word of one class is no word of another
pub kept_in_slices : (code : List Range) (word : ℕ) → class_at code word ≡ Some Plain → IsKept code word ↔ IsInSomeSlice code word
kept_in_slices code word class = (
  (λ kept. used_in_some_slice code word kept.1),
  (λ slice. (class, some_slice_is_used code word slice)),
)

pub hard_in_slices : (code : List Range) (word : ℕ) → class_at code word ≡ Some Load → IsHard code word ↔ IsInSomeSlice code word
hard_in_slices code word class = (
  (λ hard. elim hard [
    | inl load ↦ used_in_some_slice code word load.1
    | inr other ↦ elim other [
      | inl call ↦ absurd (cc (sym class ∙ call))
      | inr indirect ↦ absurd (cc (sym class ∙ indirect))
    ]
  ]),
  (λ slice. inl (class, some_slice_is_used code word slice)),
)

-- Code words on stretches lie below the stack.
use Rattle.std.proofs.Common.{◌≡◌, inl, inr, ℕ, zero, suc, ◌%◌, ◌<◌, ◌^◌, true, List, [], ◌∷◌, length, get_or, Some, is_some, sym, ap, ◌∙◌, arith}
use Rattle.std.specs.Prelude.{◌&&◌, ◌==◌, nat_le, nat_lt}
use Rattle.std.specs.List.{AllByRecursion}
use Rattle.std.proofs.lemmas.Bool.{or_cases, and_parts, ltb-true}
use Rattle.rv_code.specs.declared.extent.Extent.{Extent}
use Rattle.rv_code.specs.Code.{extent_end, is_code, is_word_of}
use Rattle.rv_code.specs.Places.{address_of}
use Rattle.rv_code.proofs.LawsOfLookUps.{place_of-address_of, is_some-place_of}
use Rattle.schema_form.specs.Valid.{EndsBelowStack, AreStretches}

pub is_code_small : (stretches : List Extent) (address : ℕ) → AllByRecursion EndsBelowStack stretches → is_code stretches address ≡ true → address < 2 ^ 31
is_code_small [] address below code = absurd (cc code)
is_code_small (stretch ∷ stretches) address below code = elim (or_cases (is_word_of stretch address) (is_code stretches address) code) [
  | inl this ↦
      let both = and_parts (nat_le stretch.start address && nat_lt address (extent_end stretch)) (address % 4 == 0) this in
      let within = and_parts (nat_le stretch.start address) (nat_lt address (extent_end stretch)) both.0 in
      let less = ltb-true address (extent_end stretch) within.1 in
      let under = below.0 in
      omega (arith, less, under)
  | inr other ↦ is_code_small stretches address below.1 other
]

-- so does the code word at a place
pub address_small : (stretches : List Extent) (place address : ℕ) → AreStretches stretches → address_of stretches place ≡ Some address → address < 2 ^ 31
address_small stretches place address are at =
    let found = place_of-address_of stretches place address are.extents.rise at in
    let code : is_code stretches address ≡ true = sym (is_some-place_of stretches address are.extents.each) ∙ ap is_some found in
    is_code_small stretches address are.below code

pub all_get_or : {X : Type 0} (P : X → Type 0) (xs : List X) (i : ℕ) (d : X) → i < length xs → AllByRecursion P xs → P (get_or xs i d)
all_get_or P [] i d within all = absurd (omega arith)
all_get_or P (x ∷ xs) zero d within all = all.0
all_get_or P (x ∷ xs) (suc i) d within all = all_get_or P xs i d (omega arith) all.1

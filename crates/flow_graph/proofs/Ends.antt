-- What stands behind a code word.
use Rattle.std.proofs.Common.{◌≡◌, ℕ, ◌+◌, ◌^◌, ◌≤◌, true, false, List, [], ◌∷◌, get_or, Some, None, refl, sym, ap, ◌∙◌, arith}
use Rattle.std.specs.Prelude.{is_some}
use Rattle.std.specs.List.{AllByRecursion}
use Rattle.std.proofs.lemmas.Bool.Decides.{nat_tests}
use Rattle.std.proofs.lemmas.List.{get_or-map}
use Rattle.std.proofs.lemmas.Option.{slice_get_within, get_or_from_slice_get}
use Rattle.rv_code.specs.declared.extent.Extent.{Extent}
use Rattle.rv_code.specs.declared.image.Range.{Range}
use Rattle.rv_code.specs.Code.{extents_of, is_code, is_word_of}
use Rattle.rv_code.specs.Places.{code_addresses, place_of, AreCodeExtents, EndsInSpace}
use Rattle.rv_code.proofs.LawsOfLookUps.{address_of-place_of, is_some-place_of}
use Rattle.flow_graph.specs.Blocks.{is_end_among}
use Rattle.flow_graph.specs.Marks.{is_one_of, marks_of}

beyond_one : (extent : Extent) (address : ℕ) → EndsInSpace extent → 2 ^ 32 ≤ address → is_word_of extent address ≡ false
beyond_one extent address ends beyond = grind (arith, nat_tests)

-- no code word stands past the address space
beyond : (extents : List Extent) (address : ℕ) → AllByRecursion EndsInSpace extents → 2 ^ 32 ≤ address → is_code extents address ≡ false
beyond [] address ends past = refl
beyond (extent ∷ extents) address ends past = rw (beyond_one extent address ends.0 past) (beyond extents address ends.1 past)

no_code : (ranges : List Range) (starts : List ℕ) (address : ℕ) → is_code (extents_of ranges) (address + 4) ≡ false → true ≡ is_end_among ranges starts address
no_code ranges starts address none = rw none refl

pub at_the_end : (ranges : List Range) (starts : List ℕ) (address : ℕ) → AllByRecursion EndsInSpace (extents_of ranges) → 2 ^ 32 ≤ address + 4 → true ≡ is_end_among ranges starts address
at_the_end ranges starts address ends past = no_code ranges starts address (beyond (extents_of ranges) (address + 4) ends past)

pub nothing_behind : (ranges : List Range) (starts : List ℕ) (address : ℕ) → AreCodeExtents (extents_of ranges) → place_of (extents_of ranges) (address + 4) ≡ None → true ≡ is_end_among ranges starts address
nothing_behind ranges starts address order none =
    no_code ranges starts address (sym (is_some-place_of (extents_of ranges) (address + 4) order.each) ∙ ap is_some none)

-- the mark of a code word
pub mark_at : (ranges : List Range) (starts : List ℕ) (place address : ℕ) → place_of (extents_of ranges) address ≡ Some place → get_or (marks_of ranges starts) place false ≡ is_one_of starts address
mark_at ranges starts place address is =
    let words : List ℕ = code_addresses (extents_of ranges) in
    let found = address_of-place_of (extents_of ranges) place address is in
    get_or-map (is_one_of starts) words place 0 false (slice_get_within words place address found) ∙ ap (is_one_of starts) (get_or_from_slice_get words place address 0 found)

pub word_behind : (ranges : List Range) (starts : List ℕ) (place address : ℕ) → AreCodeExtents (extents_of ranges) → place_of (extents_of ranges) (address + 4) ≡ Some place
    → get_or (marks_of ranges starts) place false ≡ is_end_among ranges starts address
word_behind ranges starts place address order is =
    let code : is_code (extents_of ranges) (address + 4) ≡ true = sym (is_some-place_of (extents_of ranges) (address + 4) order.each) ∙ ap is_some is in
    rw code (mark_at ranges starts place (address + 4) is)

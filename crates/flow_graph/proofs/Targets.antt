-- What marking the places behind one more word comes to.
use Rattle.std.proofs.Common.{◌≡◌, ℕ, ◌+◌, ◌++◌, List, [], ◌∷◌, take, Bool, Some, sym, ap, ◌∙◌, append_assoc, append-nil}
use Rattle.std.specs.Prelude.{flat_map}
use Rattle.std.proofs.lemmas.Grind.{flat_map-append}
use Rattle.std.proofs.lemmas.List.{take_more}
use Rattle.std.proofs.lemmas.Option.{slice_get_within, get_or_from_slice_get}
use Rattle.rv_code.specs.declared.image.Range.{Range}
use Rattle.rv_code.specs.Code.{extents_of}
use Rattle.rv_code.specs.Places.{code_addresses, address_of}
use Rattle.flow_graph.specs.CodeParts.{instr_in}
use Rattle.flow_graph.specs.Leaders.{places_behind}
use Rattle.flow_graph.specs.Marks.{marks_of}

-- the words up to a place, and one more
pub words_more : (ranges : List Range) (place address : ℕ) → address_of (extents_of ranges) place ≡ Some address
    → take (place + 1) (code_addresses (extents_of ranges)) ≡ take place (code_addresses (extents_of ranges)) ++ address ∷ []
words_more ranges place address is =
    let words : List ℕ = code_addresses (extents_of ranges) in
    take_more words place 0 (slice_get_within words place address is) ∙ ap (λ (n : ℕ). take place words ++ n ∷ []) (get_or_from_slice_get words place address 0 is)

abbrev pub behind : List Range → ℕ → List ℕ
behind ranges address = places_behind (instr_in ranges address) address

pub targets_more : (ranges : List Range) (addresses : List ℕ) (place address : ℕ) (marks : List Bool) → address_of (extents_of ranges) place ≡ Some address
    → marks ≡ marks_of ranges ((addresses ++ flat_map (behind ranges) (take place (code_addresses (extents_of ranges)))) ++ behind ranges address)
    → marks ≡ marks_of ranges (addresses ++ flat_map (behind ranges) (take (place + 1) (code_addresses (extents_of ranges))))
targets_more ranges addresses place address marks is was =
    let words : List ℕ = take place (code_addresses (extents_of ranges)) in
    let one : flat_map (behind ranges) (address ∷ []) ≡ behind ranges address = simp append-nil in
    let all : flat_map (behind ranges) (take (place + 1) (code_addresses (extents_of ranges))) ≡ flat_map (behind ranges) words ++ behind ranges address =
    ap (flat_map (behind ranges)) (words_more ranges place address is) ∙ flat_map-append (behind ranges) words (address ∷ []) ∙ ap (λ (more : List ℕ). flat_map (behind ranges) words ++ more) one in
    was ∙ ap (marks_of ranges) (append_assoc addresses (flat_map (behind ranges) words) (behind ranges address) ∙ ap (λ (more : List ℕ). addresses ++ more) (sym all))

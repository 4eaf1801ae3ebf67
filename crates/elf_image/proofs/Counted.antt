-- How many words the extents of a list have, one extent more.
use Rattle.std.proofs.Common.{◌≡◌, ℕ, ◌+◌, ◌<◌, List, [], ◌∷◌, ◌++◌, length, get_or, take, ap, ◌∙◌, length-append}
use Rattle.std.proofs.lemmas.List.{take_more, append-nil}
use Rattle.std.proofs.lemmas.Grind.{flat_map-append}
use Rattle.rv_code.specs.declared.extent.Extent.{Extent}
use Rattle.rv_code.specs.Places.{words_of, code_addresses}
use Rattle.rv_code.proofs.LawsOfPlaces.{length-words_of}

pub length_more : (extents : List Extent) (i : ℕ) (d : Extent) → i < length extents
    → length (code_addresses (take (i + 1) extents)) ≡ length (code_addresses (take i extents)) + (get_or extents i d).count
length_more extents i d inside =
    let extent = get_or extents i d in
    ap (λ xs. length (code_addresses xs)) (take_more extents i d inside)
    ∙ ap length (flat_map-append words_of (take i extents) (extent ∷ []))
    ∙ length-append (code_addresses (take i extents)) (words_of extent ++ [])
    ∙ ap (λ xs. length (code_addresses (take i extents)) + length xs) (append-nil (words_of extent))
    ∙ ap (λ n. length (code_addresses (take i extents)) + n) (length-words_of extent)

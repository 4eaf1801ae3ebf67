-- Code words in the order of their addresses. The place of a code word is its number in that order, from 0: this
-- project's own.
use Rattle.std.specs.Prelude.{◌≡◌, ℕ, ◌+◌, ◌*◌, ◌%◌, ◌^◌, ◌<◌, ◌≤◌, List, [], ◌∷◌, map, Option, ⊤, if◌then◌else◌, ◌==◌, slice_get, position, flat_map}
use Rattle.std.specs.List.{AllByRecursion, range_with_len}
use Rattle.rv_code.specs.declared.extent.Extent.{Extent}
use Rattle.rv_code.specs.Code.{extent_end}

-- the addresses of an extent's words
abbrev pub words_of : Extent → List ℕ
words_of extent = map (λ number. extent.start + 4 * number) (range_with_len 0 extent.count)

-- the addresses of the code words, in order where the extents are
abbrev pub code_addresses : List Extent → List ℕ
code_addresses extents = flat_map words_of extents

-- the place of the code word at an address, if one stands there
abbrev pub place_of : List Extent → ℕ → Option ℕ
place_of extents address = position (λ word. word == address) (code_addresses extents)

-- the address of the code word at a place, if there is one
abbrev pub address_of : List Extent → ℕ → Option ℕ
address_of extents place = slice_get (code_addresses extents) place

-- An extent of code words is not empty and starts at a multiple of 4.
pub record IsCodeExtent (extent : Extent) : Type 0 where
  pub some : 0 < extent.count
  pub aligned : extent.start % 4 ≡ 0

-- its words lie within the address space
abbrev pub EndsInSpace : Extent → Type 0
EndsInSpace extent = extent_end extent ≤ 2 ^ 32

-- each extent ends before the start of the next, and they don't touch
abbrev pub ExtentsRise : List Extent → Type 0
ExtentsRise [] = ⊤
ExtentsRise (extent ∷ []) = ⊤
ExtentsRise (extent ∷ next ∷ extents) = (extent_end extent < next.start) × ExtentsRise (next ∷ extents)

-- extents as an image has them
pub record AreCodeExtents (extents : List Extent) : Type 0 where
  pub each : AllByRecursion IsCodeExtent extents
  pub rise : ExtentsRise extents

-- an address before extents that stand behind it: their first grows where the two touch
abbrev pub put_before : ℕ → List Extent → List Extent
put_before address [] = record { start = address; count = 1 } ∷ []
put_before address (extent ∷ extents) =
    if address + 4 == extent.start then record { start = address; count = 1 + extent.count } ∷ extents
    else record { start = address; count = 1 } ∷ extent ∷ extents

-- the extents of addresses that rise: those that touch stand in one
abbrev pub extents_at : List ℕ → List Extent
extents_at [] = []
extents_at (address ∷ addresses) = put_before address (extents_at addresses)

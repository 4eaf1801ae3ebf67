-- Where code words stand: at each fourth address of an extent, from its start on. A range of an image has its words
-- beside. That these words alone can be fetched is this project's own.
use Rattle.std.specs.Prelude.{ℕ, ◌+◌, ◌-◌, ◌*◌, ◌/◌, ◌%◌, Bool, ◌&&◌, List, [], ◌∷◌, map, length, Option, None, if◌then◌else◌, ◌==◌, nat_lt, nat_le, slice_get}
use Rattle.std.specs.List.{list_any}
use Rattle.rv_code.specs.declared.extent.Extent.{Extent}
use Rattle.rv_code.specs.declared.image.Range.{Range}

-- the first address behind an extent
abbrev pub extent_end : Extent → ℕ
extent_end extent = extent.start + 4 * extent.count

-- a word of the extent stands at this address
abbrev pub is_word_of : Extent → ℕ → Bool
is_word_of extent address = nat_le extent.start address && nat_lt address (extent_end extent) && (address % 4 == 0)

-- a code word stands at this address
abbrev pub is_code : List Extent → ℕ → Bool
is_code extents address = list_any (λ extent. is_word_of extent address) extents

abbrev pub extent_of : Range → Extent
extent_of range = record { start = range.start; count = length range.words }

abbrev pub extents_of : List Range → List Extent
extents_of ranges = map extent_of ranges

-- the code word at this address, if there is one
abbrev pub code_word : List Range → ℕ → Option ℕ
code_word [] address = None
code_word (range ∷ ranges) address =
    if is_word_of (extent_of range) address then slice_get range.words ((address - range.start) / 4) else code_word ranges address

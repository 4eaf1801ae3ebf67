-- Extents of code words section by section, and how they are joined.
use Rattle.std.specs.Prelude.{◌+◌, ◌-◌, ◌/◌, Bool, List, [], ◌∷◌, nat_le, max, if◌then◌else◌}
use Rattle.rv_code.specs.declared.extent.Extent.{Extent}
use Rattle.rv_code.specs.Code.{extent_end}
use Rattle.rv_code.specs.Places.{IsCodeExtent, EndsInSpace}

-- it isn't empty, starts at a multiple of 4, and ends in the address space
pub record IsPart (extent : Extent) : Type 0 where
  pub run : IsCodeExtent extent
  pub ends : EndsInSpace extent

-- a part that starts no earlier begins in the extent or right behind it
abbrev pub touches : (extent part : Extent) → Bool
touches extent part = nat_le part.start (extent_end extent)

-- the two as one
abbrev pub united : (extent part : Extent) → Extent
united extent part = record { start = extent.start; count = max extent.count ((part.start - extent.start) / 4 + part.count) }

-- an extent and the parts behind it, in the order of their starts: those that touch as one
abbrev pub joined_from : Extent → List Extent → List Extent
joined_from extent [] = extent ∷ []
joined_from extent (part ∷ parts) =
    if touches extent part then joined_from (united extent part) parts else extent ∷ joined_from part parts

abbrev pub joined_of : List Extent → List Extent
joined_of [] = []
joined_of (part ∷ parts) = joined_from part parts

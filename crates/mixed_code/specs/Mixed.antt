-- The regions of the image, and its ranges of code words.
use Rattle.std.specs.Prelude.{true, false, List, [], ◌∷◌}
use Rattle.rv_code.specs.declared.image.Range.{Range}
use Rattle.rv_code.specs.declared.image.Region.{Region}
use Rattle.mixed_code.specs.declared.mixed.TheConstants.{FIRST, SECOND, THIRD, FOURTH}
use Rattle.mixed_code.specs.Parts.{region_with, range_with}

unfoldable pub mixed_regions : List Region
mixed_regions =
    region_with 0x10000 false FIRST ∷ region_with 0x20000 true SECOND ∷ region_with 0x30000 false THIRD ∷ region_with 0x40000 true FOURTH ∷ []

unfoldable pub mixed_code : List Range
mixed_code = range_with 0x10000 FIRST ∷ range_with 0x20000 SECOND ∷ range_with 0x30000 THIRD ∷ range_with 0x40000 FOURTH ∷ []

-- A region that holds words alone, and the range of them.
use Rattle.std.specs.Prelude.{ℕ, Bool, List}
use Rattle.std.specs.List.{flat_map}
use Rattle.rv_code.specs.declared.image.Range.{Range}
use Rattle.rv_code.specs.declared.image.Region.{Region}
use Rattle.rv_code.specs.Numbers.{bytes_of}

abbrev pub region_with : (start : ℕ) (writable : Bool) (words : List ℕ) → Region
region_with start writable words = record { start = start; bytes = flat_map (bytes_of 4) words; zeros = 0; writable = writable }

abbrev pub range_with : (start : ℕ) (words : List ℕ) → Range
range_with start words = record { start = start; words = words }

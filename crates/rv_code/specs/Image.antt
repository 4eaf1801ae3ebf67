-- What the parts of an executable's image have to do with each other, and the limits on their number and size: this
-- project's own.
use Rattle.std.specs.Prelude.{◌≡◌, ◌⊎◌, ℕ, ◌+◌, ◌-◌, ◌*◌, ◌%◌, ◌^◌, ◌<◌, ◌≤◌, Bool, List, [], ◌∷◌, length, map, take, drop, sum, ⊤, IfSome, is_some, nat_lt, IsTrue}
use Rattle.std.specs.List.{Any, AllByRecursion, filter, flat_map}
use Rattle.std.specs.List.Sorted.{IsStrictlyIncreasing}
use Rattle.rv_code.specs.declared.image.Region.{Region}
use Rattle.rv_code.specs.declared.image.Range.{Range}
use Rattle.rv_code.specs.declared.image.Name.{Name}
use Rattle.rv_code.specs.declared.image.Note.{Note}
use Rattle.rv_code.specs.declared.image.Mark.{Mark}
use Rattle.rv_code.specs.ImageParts.{ImageParts}
use Rattle.rv_code.specs.Numbers.{IsByte, IsWord, bytes_of}
use Rattle.rv_code.specs.Limits.{mapped_limit, regions_limit, ranges_limit, words_limit}
use Rattle.rv_code.specs.Addresses.{stack_start, tracer_start}
use Rattle.rv_code.specs.Code.{extent_end, extent_of, extents_of, is_code}

-- a region's bytes and then its zeros
abbrev pub region_length : Region → ℕ
region_length region = length region.bytes + region.zeros

-- the first address behind a region
abbrev pub region_end : Region → ℕ
region_end region = region.start + region_length region

-- A region is not empty and lies below the stack or, where the image has a note, with the tracer's.
pub record IsRegion (has_note : Bool) (region : Region) : Type 0 where
  pub some : 0 < region_length region
  pub bytes : AllByRecursion IsByte region.bytes
  pub allowed : (region_end region ≤ stack_start) ⊎ (IsTrue has_note × (tracer_start ≤ region.start) × (region_end region ≤ 2 ^ 32))

-- each region ends at or before the start of the next
abbrev pub RegionsRise : List Region → Type 0
RegionsRise [] = ⊤
RegionsRise (region ∷ []) = ⊤
RegionsRise (region ∷ next ∷ regions) = (region_end region ≤ next.start) × RegionsRise (next ∷ regions)

-- the words of a range are the bytes of a region at their addresses, and no zeros behind them
pub record HoldsWords (region : Region) (range : Range) : Type 0 where
  pub above : region.start ≤ range.start
  pub below : extent_end (extent_of range) ≤ region.start + length region.bytes
  pub same : take (4 * length range.words) (drop (range.start - region.start) region.bytes) ≡ flat_map (bytes_of 4) range.words

pub record IsRange (regions : List Region) (range : Range) : Type 0 where
  pub some : 0 < length range.words
  pub aligned : range.start % 4 ≡ 0
  pub words : AllByRecursion IsWord range.words
  pub held : Any (λ region. HoldsWords region range) regions

-- each range ends before the start of the next, and they don't touch
abbrev pub RangesRise : List Range → Type 0
RangesRise [] = ⊤
RangesRise (range ∷ []) = ⊤
RangesRise (range ∷ next ∷ ranges) = (extent_end (extent_of range) < next.start) × RangesRise (next ∷ ranges)

pub record IsNote (note : Note) : Type 0 where
  pub words : IsWord note.entry × IsWord note.first × IsWord note.count × IsWord note.buffer × IsWord note.used
  pub marks : AllByRecursion (λ (mark : Mark). IsWord mark.from × IsWord mark.original) note.map
  pub entry : note.entry % 4 ≡ 0
  pub first : note.first % 4 ≡ 0
  pub rises : IsStrictlyIncreasing (map (λ (mark : Mark). mark.from) note.map)
  pub originals : AllByRecursion (λ (mark : Mark). mark.original % 4 ≡ 0) note.map

-- the bytes mapped below the tracer's, the stack apart
abbrev pub mapped_length : List Region → ℕ
mapped_length regions = sum (map region_length (filter (λ (region : Region). nat_lt region.start tracer_start) regions))

-- how many code words there are
abbrev pub word_count : List Range → ℕ
word_count ranges = sum (map (λ (range : Range). length range.words) ranges)

pub record IsWithinLimits (image : ImageParts) : Type 0 where
  pub mapped : mapped_length image.regions ≤ mapped_limit
  pub regions : length image.regions ≤ regions_limit (is_some image.note)
  pub ranges : length image.code ≤ ranges_limit
  pub words : word_count image.code ≤ words_limit (is_some image.note)

-- an image that an accepted executable may have
pub record IsImage (image : ImageParts) : Type 0 where
  pub regions : AllByRecursion (IsRegion (is_some image.note)) image.regions
  pub regions_rise : RegionsRise image.regions
  pub ranges : AllByRecursion (IsRange image.regions) image.code
  pub ranges_rise : RangesRise image.code
  pub entry : IsTrue (is_code (extents_of image.code) image.entry)
  pub names : AllByRecursion (λ (name : Name). IsTrue (is_code (extents_of image.code) name.address)) image.names
  pub named : AllByRecursion (λ address. IsTrue (is_code (extents_of image.code) address)) image.named
  pub named_rise : IsStrictlyIncreasing image.named
  pub note : IfSome image.note IsNote
  pub limits : IsWithinLimits image

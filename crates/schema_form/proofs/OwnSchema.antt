-- The schema of an image is valid.
use Rattle.std.proofs.Common.{◌≡◌, inl, inr, ℕ, ◌<◌, ◌≤◌, Bool, true, false, List, [], ◌∷◌, length, None, is_some, sym, ap, subst, ◌∙◌, arith}
use Rattle.std.specs.List.{AllByRecursion}
use Rattle.std.proofs.lemmas.List.{length-map}
use Rattle.rv_code.specs.declared.extent.Extent.{Extent}
use Rattle.rv_code.specs.declared.image.Range.{Range}
use Rattle.rv_code.specs.declared.image.Region.{Region}
use Rattle.rv_code.specs.declared.limits.TheConstants.{WORDS_LIMIT}
use Rattle.rv_code.specs.Addresses.{stack_start}
use Rattle.rv_code.specs.Code.{extent_of, extents_of, is_code}
use Rattle.rv_code.specs.Image.{IsImage, IsRange, IsRegion, region_end, word_count}
use Rattle.rv_code.specs.ImageParts.{ImageParts}
use Rattle.rv_code.specs.Limits.{ranges_limit, words_limit}
use Rattle.rv_code.specs.Places.{AreCodeExtents}
use Rattle.rv_code.proofs.LawsOfPlaces.{at_place, length-code_addresses_of_ranges}
use Rattle.flow_graph.specs.CodeParts.{CodeParts}
use Rattle.flow_graph.specs.Edges.{edges_of}
use Rattle.flow_graph.specs.Laws.{BlocksAreRuns, WordsAreInOneBlock}
use Rattle.flow_tree.specs.WitnessEdges.{CutsCycles}
use Rattle.schema_form.specs.declared.word.SchemaWord.{SchemaWord}
use Rattle.schema_form.specs.Layout.{words_total}
use Rattle.schema_form.specs.OfImage.{AreSchemaWordsOf}
use Rattle.schema_form.specs.Valid.{EndsBelowStack, AreNumbersOfWord, IsSchema}
use Rattle.schema_form.proofs.InnerEdges.{words_total-code_addresses}
use Rattle.schema_form.proofs.OwnEdges.{code_at, small_at}
use Rattle.schema_form.proofs.OwnForest.{own_forest}
use Rattle.schema_form.proofs.OwnWords.{word_fits}

-- the code of an image without a note, as a schema asks for it
pub record IsOwnCode (entry : ℕ) (code : List Range) : Type 0 where
  pub some : 0 < length (extents_of code)
  pub ranges : length (extents_of code) ≤ ranges_limit
  pub below : AllByRecursion EndsBelowStack (extents_of code)
  pub few : word_count code ≤ WORDS_LIMIT
  pub entry_code : is_code (extents_of code) entry ≡ true

region_below : (has_note : Bool) (region : Region) → has_note ≡ false → IsRegion has_note region → region_end region ≤ stack_start
region_below has_note region none is = elim is.allowed [
  | inl below ↦ below
  | inr noted ↦ let clash : true ≡ false = sym noted.0 ∙ none in absurd (cc clash)
]

range_below : (has_note : Bool) (regions : List Region) (range : Range) → has_note ≡ false → AllByRecursion (IsRegion has_note) regions → IsRange regions range → EndsBelowStack (extent_of range)
range_below has_note regions range none all is =
    let held = is.held in
    let fits = region_below has_note held.1 none (subst (IsRegion has_note) held.3 (at_place (IsRegion has_note) regions all held.0 held.1 held.2)) in
    omega (arith, fits, held.4.below)

ranges_below : (has_note : Bool) (regions : List Region) (ranges : List Range) → has_note ≡ false → AllByRecursion (IsRegion has_note) regions → AllByRecursion (IsRange regions) ranges
    → AllByRecursion EndsBelowStack (extents_of ranges)
ranges_below has_note regions [] none all are = tt
ranges_below has_note regions (range ∷ ranges) none all are = (range_below has_note regions range none all are.0, ranges_below has_note regions ranges none all are.1)

some_extents : (extents : List Extent) (address : ℕ) → is_code extents address ≡ true → 0 < length extents
some_extents [] address code = absurd (cc code)
some_extents (extent ∷ extents) address code = omega arith

pub own_code : (image : ImageParts) → IsImage image → image.note ≡ None → IsOwnCode image.entry image.code
own_code image is none =
    let no_note : is_some image.note ≡ false = ap is_some none in
    record {
      some = some_extents (extents_of image.code) image.entry is.entry;
      ranges = let few = is.limits.ranges in omega (arith, few, length-map image.code extent_of);
      below = ranges_below (is_some image.note) image.regions image.code no_note is.regions is.ranges;
      few = subst (λ (b : Bool). word_count image.code ≤ words_limit b) no_note is.limits.words;
      entry_code = is.entry;
    }

module _ (parts : CodeParts) (marks : List Bool) (words : List SchemaWord) (order : AreCodeExtents (extents_of parts.code))
    (runs : BlocksAreRuns parts) (once : WordsAreInOneBlock parts) (cuts : CutsCycles (edges_of parts) marks) (are : AreSchemaWordsOf parts marks (word_count parts.code) words)
    (count : length marks ≡ length (edges_of parts)) (numbers : AllByRecursion AreNumbersOfWord words) (entry : ℕ) (own : IsOwnCode entry parts.code) where
  total_is : words_total (extents_of parts.code) ≡ word_count parts.code
  total_is = sym (words_total-code_addresses (extents_of parts.code)) ∙ length-code_addresses_of_ranges parts.code

  pub own_schema : IsSchema (record { entry = entry; stretches = extents_of parts.code; words = words })
  own_schema = record {
    some = own.some;
    ranges = own.ranges;
    stretches = record { extents = order; below = own.below; few = let few = own.few in omega (arith, few, total_is) };
    entry = own.entry_code;
    words = record {
      count = are.count ∙ sym total_is;
      numbers = numbers;
      each = λ place address word at there.
          let code = code_at parts marks words order own.below runs once cuts are place address at in
          word_fits parts marks runs once cuts address word (small_at parts marks words order own.below runs once cuts are address code) code (are.each place address word at there);
    };
    forest = own_forest parts marks words order own.below runs once cuts are count;
  }

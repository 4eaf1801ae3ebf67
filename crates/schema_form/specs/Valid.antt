-- What a schema keeps: this project's own.
use Rattle.std.specs.Prelude.{◌≡◌, ℕ, ◌<◌, ◌≤◌, true, false, List, Some, length, slice_get}
use Rattle.std.specs.List.{AllByRecursion}
use Rattle.rv_code.specs.declared.extent.Extent.{Extent}
use Rattle.rv_code.specs.declared.limits.TheConstants.{WORDS_LIMIT}
use Rattle.rv_code.specs.Addresses.{stack_start}
use Rattle.rv_code.specs.Code.{extent_end, is_code}
use Rattle.rv_code.specs.Limits.{ranges_limit}
use Rattle.rv_code.specs.Numbers.{IsWord}
use Rattle.rv_code.specs.Places.{AreCodeExtents, address_of}
use Rattle.schema_form.specs.declared.word.SchemaWord.{SchemaWord}
use Rattle.schema_form.specs.FreeEdges.{free_edges, HaveNoCycle}
use Rattle.schema_form.specs.Layout.{words_total}
use Rattle.schema_form.specs.Rules.{word_misfits}
use Rattle.schema_form.specs.SchemaParts.{SchemaParts}

abbrev pub EndsBelowStack : Extent → Type 0
EndsBelowStack stretch = extent_end stretch ≤ stack_start

-- where code words stand: in order, below the stack, and not too many
pub record AreStretches (stretches : List Extent) : Type 0 where
  pub extents : AreCodeExtents stretches
  pub below : AllByRecursion EndsBelowStack stretches
  pub few : words_total stretches ≤ WORDS_LIMIT

pub record AreNumbersOfWord (word : SchemaWord) : Type 0 where
  pub flags : IsWord word.flags
  pub raw : IsWord word.raw
  pub mask : IsWord word.mask

-- one for each code word, and nothing in it that isn't allowed
pub record AreSchemaWords (stretches : List Extent) (words : List SchemaWord) : Type 0 where
  pub count : length words ≡ words_total stretches
  pub numbers : AllByRecursion AreNumbersOfWord words
  pub each :
      (place address : ℕ) (word : SchemaWord) → address_of stretches place ≡ Some address → slice_get words place ≡ Some word
      → word_misfits stretches address word ≡ false

-- a schema that is valid, and whose edges that aren't recorded have no cycle
pub record IsSchema (parts : SchemaParts) : Type 0 where
  pub some : 0 < length parts.stretches
  pub ranges : length parts.stretches ≤ ranges_limit
  pub stretches : AreStretches parts.stretches
  pub entry : is_code parts.stretches parts.entry ≡ true
  pub words : AreSchemaWords parts.stretches parts.words
  pub forest : HaveNoCycle (free_edges parts.stretches parts.words)

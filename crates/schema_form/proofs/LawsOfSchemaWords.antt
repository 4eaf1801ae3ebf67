-- What the flags and the raw word of a code word's entry say, in the schema of code under marks. Crates above may cite this file.
use Rattle.std.proofs.Common.{◌≡◌, false, cond, Some, ap, ◌∙◌}
use Rattle.std.specs.Prelude.{Bool, List, ◌&&◌, ◌==◌, not, ℕ}
use Rattle.std.specs.Option.{option_map}
use Rattle.rv_code.specs.Parts.{class_of}
use Rattle.rv_code.specs.Table.{meaning_of}
use Rattle.flow_graph.specs.CodeParts.{CodeParts}
use Rattle.need_sets.specs.Words.{class_at}
use Rattle.schema_form.specs.declared.flags.TheConstants.{FALL_WITNESS, TAKEN_WITNESS, KEPT}
use Rattle.schema_form.specs.declared.word.SchemaWord.{SchemaWord}
use Rattle.schema_form.specs.Flags.{class_in, class_number, is_set}
use Rattle.schema_form.specs.OfImage.{IsSchemaWordOf}
-- the shape of a schema is one
pub use Rattle.schema_form.specs.scaffolding.Shapes.{schema_is_shape}
use Rattle.schema_form.proofs.OwnWords.{made_class, made_fall, made_taken, made_kept}

module _ (parts : CodeParts) (marks : List Bool) (address : ℕ) (word : SchemaWord) (is : IsSchemaWordOf parts marks address word) where
  pub class_there : class_at parts.code address ≡ Some (class_of (meaning_of is.value))
  class_there = ap (λ found. option_map class_of (option_map meaning_of found)) is.there

  pub class_told : class_in word.flags ≡ Some (class_of (meaning_of is.value))
  class_told = ap class_in is.flags ∙ made_class _ _ is.fall is.taken is.kept

  pub fall_told : is_set FALL_WITNESS word.flags ≡ is.fall
  fall_told = ap (is_set FALL_WITNESS) is.flags ∙ made_fall _ _ is.fall is.taken is.kept

  pub taken_told : is_set TAKEN_WITNESS word.flags ≡ is.taken
  taken_told = ap (is_set TAKEN_WITNESS) is.flags ∙ made_taken _ _ is.fall is.taken is.kept

  pub kept_told : is_set KEPT word.flags ≡ is.kept
  kept_told = ap (is_set KEPT) is.flags ∙ made_kept _ _ is.fall is.taken is.kept

  -- the raw word is the code word, but where that is Plain and isn't kept
  pub raw_told : ((class_number (class_of (meaning_of is.value)) == 0) && not is.kept) ≡ false → word.raw ≡ is.value
  raw_told whole = is.raw ∙ ap (λ left. cond left 0 is.value) whole

-- What contracts see of a schema: its fields, with plain lists for those that hold vectors.
use Rattle.std.specs.Prelude.{ℕ, List}
use Rattle.rv_code.specs.declared.extent.Extent.{Extent}
use Rattle.schema_form.specs.declared.word.SchemaWord.{SchemaWord}

pub record SchemaParts : Type 0 where
  pub entry : ℕ
  pub stretches : List Extent
  pub words : List SchemaWord

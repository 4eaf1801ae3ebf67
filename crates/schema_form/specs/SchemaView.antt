-- How contracts see a schema, and what it keeps beside: how many code words stand before each stretch.
use Rattle.std.specs.Prelude.{◌≡◌}
use Rattle.schema_form.specs.declared.schema.Schema.TheInside.{Inside}
use Rattle.schema_form.specs.Layout.{words_before}
use Rattle.schema_form.specs.SchemaParts.{SchemaParts}
use Rattle.schema_form.specs.Valid.{IsSchema}

abbrev pub schema_parts : Inside → SchemaParts
schema_parts schema = record { entry = schema.entry; stretches = schema.stretches; words = schema.words }

pub record IsSchemaInside (schema : Inside) : Type 0 where
  pub parts : IsSchema (schema_parts schema)
  pub before : schema.before ≡ words_before schema.stretches

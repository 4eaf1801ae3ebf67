-- What bytes say as a schema, and which are refused: this project's own.
use Rattle.std.specs.Prelude.{◌≡◌, ℕ, List, Some, None}
use Rattle.schema_form.specs.declared.fault.SchemaFault.{SchemaFault}
use Rattle.schema_form.specs.declared.fault.SchemaFault.TheVariants.{NotAForest}
use Rattle.schema_form.specs.FreeEdges.{free_edges, HaveNoCycle, NamesFirstToClose}
use Rattle.schema_form.specs.Layout.{entry_from, stretch_count, stretch_offset, stretches_from, schema_words_from, words_total}
use Rattle.schema_form.specs.Refusal.{form_refusal}
use Rattle.schema_form.specs.SchemaParts.{SchemaParts}

-- what the bytes say of these stretches' code words, behind so many stretches
abbrev pub parts_from : List ℕ → SchemaParts
parts_from bytes =
    record {
      entry = entry_from bytes;
      stretches = stretches_from bytes (stretch_count bytes);
      words = schema_words_from bytes (stretch_offset (stretch_count bytes)) (words_total (stretches_from bytes (stretch_count bytes)));
    }

-- the bytes aren't refused, and this is the schema that they say
pub record Spells (bytes : List ℕ) (parts : SchemaParts) : Type 0 where
  pub taken : form_refusal bytes ≡ None
  pub says : parts ≡ parts_from bytes
  pub forest : HaveNoCycle (free_edges parts.stretches parts.words)

-- The first refusal that holds of the bytes: one of their form, or that the edges that aren't recorded have a cycle.
pub data RefusedBy (bytes : List ℕ) (fault : SchemaFault) : Type 0 where
  by_form : form_refusal bytes ≡ Some fault → RefusedBy bytes fault
  by_edges :
      (name : ℕ) → form_refusal bytes ≡ None → NamesFirstToClose (free_edges (parts_from bytes).stretches (parts_from bytes).words) name
      → fault ≡ NotAForest name → RefusedBy bytes fault

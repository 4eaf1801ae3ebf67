-- What `print schema FILE` promises.
use Rattle.std.specs.Prelude.{◌≡◌, ◌⊎◌, ℕ, List}
use Rattle.ae_ports.specs.Content.{Appends, AppendsFront}
use Rattle.ae_ports.specs.Files.{SameFiles}
use Rattle.ae_print.specs.SchemaText.{schema_text}
use Rattle.schema_form.specs.SchemaParts.{SchemaParts}
use Rattle.ae_top.specs.declared.status.Status.{Status}
use Rattle.ae_top.specs.declared.status.Status.TheVariants.{Done, OutFault}
use Rattle.ae_top.specs.SchemaFile.{HasNoSchema, IsSchemaIn}
use Rattle.ae_top.specs.World.{World}

-- FILE has a schema, and its text went to the output, or a front of it. The other streams have no part in that.
pub record IsSchemaPrinted (name : List ℕ) (status : Status) (before now : World) : Type 0 where
  pub schema : SchemaParts
  pub has : IsSchemaIn before.store.told name schema
  pub text : let before_it = before.streams.out.told in let now_it = now.streams.out.told in
      ((status ≡ Done) × Appends before_it now_it (schema_text schema)) ⊎ ((status ≡ OutFault) × AppendsFront before_it now_it (schema_text schema))
  pub input : now.streams.input ≡ before.streams.input
  pub err : now.streams.err ≡ before.streams.err
  pub files : SameFiles before.store.told now.store.told

-- FILE, which is the word at this place and has this name, has no schema, or the schema was printed.
abbrev pub KeepsPrintSchema : (place : ℕ) → (name : List ℕ) → Status → (before now : World) → Type 0
KeepsPrintSchema place name status before now = HasNoSchema place name status before now ⊎ IsSchemaPrinted name status before now

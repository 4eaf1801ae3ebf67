-- What comes of a command that works on a schema.
use Rattle.std.proofs.Common.{◌≡◌, ℕ, ◌<◌, ◌≤◌, List, Option, Some, Result, Ok, Err, true, length, sym, ◌∙◌, subst, arith}
use Rattle.std.proofs.lemmas.Bool.Decides.{nat_tests}
use Rattle.std.specs.Prelude.{IfErr, nat_lt}
use Rattle.ae_ports.specs.Files.{Files, HasBytes, SameFiles}
use Rattle.schema_form.specs.declared.fault.SchemaFault.{SchemaFault}
use Rattle.schema_form.specs.declared.fault.SchemaFault.TheVariants.{NotSchema, BadEntry, NotAForest, TooLarge}
use Rattle.schema_form.specs.declared.limits.TheConstants.{SCHEMA_LIMIT}
use Rattle.schema_form.specs.Refusal.{form_refusal}
use Rattle.schema_form.specs.SchemaParts.{SchemaParts}
use Rattle.schema_form.specs.Spells.{RefusedBy, by_form}
use Rattle.ae_top.specs.declared.inputs.NotRead.{NotRead}
use Rattle.ae_top.specs.declared.schema_file.NoSchema.{NoSchema}
use Rattle.ae_top.specs.declared.status.Status.{Status}
use Rattle.ae_top.specs.Inner.Command.{Carries}
use Rattle.ae_top.specs.Inputs.{IsNotRead}
use Rattle.ae_top.specs.SchemaFile.{HasNoSchema, IsSchemaIn, LacksSchema, no_schema_by, status_without_schema}
use Rattle.ae_top.specs.World.{World, Blames, BlamesDevices}
use Rattle.ae_top.proofs.Blamed.{no_schema_blames, schema_unused}
use Rattle.ae_top.proofs.ToldBehind.{absent_before, bytes_before}

-- a file that is longer than a schema may be is refused for it
refused_long : (bytes : List ℕ) → SCHEMA_LIMIT < length bytes → form_refusal bytes ≡ Some TooLarge
refused_long bytes long =
    let over : nat_lt SCHEMA_LIMIT (length bytes) ≡ true = grind (arith, nat_tests) in
    cc

pub too_long_schema : (told : Option Files) (name : List ℕ) → IsNotRead told name SCHEMA_LIMIT NotRead.TooLong → LacksSchema told name (NoSchema.Bad TooLarge)
too_long_schema told name is = (is.0, is.1, by_form (refused_long is.0 is.2))

-- why there is none in a file with these bytes, by the fault of reading them
lacks_by : (told : Option Files) (name bytes : List ℕ) (fault : SchemaFault) → HasBytes told name bytes → length bytes ≤ SCHEMA_LIMIT → ((fault ≡ SchemaFault.NoMemory → ⊥) → RefusedBy bytes fault)
    → LacksSchema told name (no_schema_by fault)
lacks_by told name bytes NotSchema has small refused = (bytes, has, refused (λ is. absurd (cc is)))
lacks_by told name bytes (BadEntry offset) has small refused = (bytes, has, refused (λ is. absurd (cc is)))
lacks_by told name bytes (NotAForest edge) has small refused = (bytes, has, refused (λ is. absurd (cc is)))
lacks_by told name bytes TooLarge has small refused = (bytes, has, refused (λ is. absurd (cc is)))
lacks_by told name bytes SchemaFault.NoMemory has small refused = (bytes, has, small)

pub lacks_in : (told : Option Files) (name bytes : List ℕ) (fault : SchemaFault) (why : NoSchema) → why ≡ no_schema_by fault → HasBytes told name bytes → length bytes ≤ SCHEMA_LIMIT
    → ((fault ≡ SchemaFault.NoMemory → ⊥) → RefusedBy bytes fault) → LacksSchema told name why
lacks_in told name bytes fault why is has small refused = subst (LacksSchema told name) (sym is) (lacks_by told name bytes fault has small refused)

lacks_before : (before now : Option Files) (name : List ℕ) (why : NoSchema) → SameFiles before now → LacksSchema now name why → LacksSchema before name why
lacks_before before now name NoSchema.Missing same lacks = absent_before before now name same lacks
lacks_before before now name NoSchema.StoreFault same lacks = tt
lacks_before before now name NoSchema.NoMemory same lacks = (lacks.0, bytes_before before now name lacks.0 same lacks.1, lacks.2)
lacks_before before now name (NoSchema.Bad fault) same lacks = (lacks.0, bytes_before before now name lacks.0 same lacks.1, lacks.2)

pub lacked_before : {T : Type 0} (result : Result T NoSchema) (before now : Option Files) (name : List ℕ) → SameFiles before now → IfErr result (LacksSchema now name) → IfErr result (LacksSchema before name)
lacked_before (Ok schema) before now name same lacks = tt
lacked_before (Err why) before now name same lacks = lacks_before before now name why same lacks

pub schema_before : (before now : Option Files) (name : List ℕ) (schema : SchemaParts) → SameFiles before now → IsSchemaIn now name schema → IsSchemaIn before name schema
schema_before before now name schema same has = (has.0, bytes_before before now name has.0 same has.1, has.2)

-- there is no schema to work on
pub carries_no_schema : (word : ℕ) (name : List ℕ) (why : NoSchema) (status : Status) (before now : World) → status ≡ status_without_schema why word
    → LacksSchema before.store.told name why → now.streams ≡ before.streams → SameFiles before.store.told now.store.told
    → Blames (why ≡ NoSchema.StoreFault) before.store.faults now.store.faults
    → (promise : Type 0) → (HasNoSchema word name status before now → promise) → Carries promise status before now
carries_no_schema word name why status before now is lacks same files store promise keeps =
    record {
      keeps = keeps (record { why = why; lacks = lacks; says = is; streams = same; files = files });
      blames = subst (λ s. BlamesDevices s before now) (sym is) (no_schema_blames why word before now same store);
      used = λ usage. schema_unused why word (sym is ∙ usage);
    }

-- What the format gives to those who write schemas and read them.
use Rattle.std.specs.Prelude.{◌≡◌, ℕ, List}
use Rattle.std.specs.List.{AllByRecursion}
use Rattle.rv_code.specs.Numbers.{IsByte}
use Rattle.schema_form.specs.declared.fault.SchemaFault.{SchemaFault}
use Rattle.schema_form.specs.SchemaParts.{SchemaParts}
use Rattle.schema_form.specs.Spelling.{schema_bytes}
use Rattle.schema_form.specs.Spells.{Spells, RefusedBy}
use Rattle.schema_form.specs.Valid.{IsSchema}

-- the bytes of a schema are read back as the schema
abbrev pub SchemasAreReadBack : Type 0
SchemasAreReadBack = (parts : SchemaParts) → IsSchema parts → Spells (schema_bytes parts) parts

-- what bytes say is a schema, and they are its bytes
abbrev pub SchemasHaveOneSpelling : Type 0
SchemasHaveOneSpelling =
    (bytes : List ℕ) (parts : SchemaParts) → AllByRecursion IsByte bytes → Spells bytes parts → IsSchema parts × (bytes ≡ schema_bytes parts)

-- bytes that say a schema aren't refused, and all others by one refusal at most
abbrev pub RefusalsAreExact : Type 0
RefusalsAreExact =
    (bytes : List ℕ) (parts : SchemaParts) (one other : SchemaFault)
    → (Spells bytes parts → RefusedBy bytes one → ⊥) × (RefusedBy bytes one → RefusedBy bytes other → one ≡ other)

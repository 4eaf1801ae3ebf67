-- How contracts see a walk, and what it has to do with its schema.
use Rattle.std.specs.Prelude.{◌≡◌, ℕ, ⊤, List, length, Some, None}
use Rattle.rv_code.specs.declared.instr.Instr.{Instr}
use Rattle.rv_code.specs.Places.{place_of}
use Rattle.regen_path.specs.declared.arcs.Ways.{Ways}
use Rattle.regen_path.specs.Arcs.{AreWays}
use Rattle.schema_form.specs.SchemaParts.{SchemaParts}
use Rattle.schema_form.specs.Valid.{IsSchema}
use Rattle.regen_walk.specs.declared.position.Position.{Position}
use Rattle.regen_walk.specs.declared.position.Position.TheVariants.{Before, After, Outside, Stopped}
use Rattle.regen_walk.specs.Decoded.{AreDecoded}
use Rattle.regen_walk.specs.FreeArcs.{quiet_arcs}

pub record WalkParts : Type 0 where
  pub position : Position
  -- x0 to x31
  pub registers : List ℕ
  -- the place of the code word that the position names
  pub place : ℕ
  -- where the edges without a record lead, from each place
  pub ways : List Ways
  -- what the words mean
  pub instrs : List Instr

-- the place is that of the code word that the position names
abbrev pub IsPlacedBy : SchemaParts → Position → (place : ℕ) → Type 0
IsPlacedBy parts (Before address) place = place_of parts.stretches address ≡ Some place
IsPlacedBy parts (After address taken) place = place_of parts.stretches address ≡ Some place
IsPlacedBy parts (Outside target) place = place_of parts.stretches target ≡ None
IsPlacedBy parts Stopped place = ⊤

-- the walk is one over this schema: it was started with it
pub record IsWalkOver (parts : SchemaParts) (walk : WalkParts) : Type 0 where
  pub valid : IsSchema parts
  pub ways : AreWays (quiet_arcs parts) (length parts.words) walk.ways
  pub decoded : AreDecoded parts.words walk.instrs
  pub placed : IsPlacedBy parts walk.position walk.place
  pub registers : length walk.registers ≡ 32

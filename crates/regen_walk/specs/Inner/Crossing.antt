-- The edge after a word.
use Rattle.std.specs.Prelude.{◌≡◌, ℕ, Bool, List, [], Some, None}
use Rattle.ev_format.specs.declared.record.Record.{Record}
use Rattle.schema_form.specs.SchemaParts.{SchemaParts}
use Rattle.regen_walk.specs.declared.crossing.Crossing.{Crossing}
use Rattle.regen_walk.specs.declared.crossing.Crossing.TheVariants.{Quiet, Told, Astray}
use Rattle.regen_walk.specs.declared.met.Spot.{Spot}
use Rattle.regen_walk.specs.declared.position.Position.TheVariants.{Before, After}
use Rattle.regen_walk.specs.declared.telling.Stand.{Stand}
use Rattle.regen_walk.specs.Inner.Met.{IsSpot}
use Rattle.regen_walk.specs.Labels as labels
use Rattle.regen_walk.specs.Moves.{move_of}
use Rattle.regen_walk.specs.WalkView.{IsPlacedBy}

-- it needs no record, and the walk goes on from a word
pub record CrossesQuietly (parts : SchemaParts) (at : ℕ) (taken : Bool) (next : Spot) : Type 0 where
  pub moves : (registers : List ℕ) → move_of parts (After at taken) registers (labels.Quiet taken) ≡ Some (record { items = []; position = Before next.address; registers = registers })
  pub other : (way : Bool) → (way ≡ taken → ⊥) → (registers : List ℕ) → move_of parts (After at taken) registers (labels.Quiet way) ≡ None
  pub untold : (rec : Record) (registers : List ℕ) → move_of parts (After at taken) registers (labels.Tell rec) ≡ None
  pub spot : IsSpot parts next

-- the record is the edge's
pub record CrossesTold (parts : SchemaParts) (at : ℕ) (taken : Bool) (rec : Record) (stand : Stand) : Type 0 where
  pub moves : (registers : List ℕ) → move_of parts (After at taken) registers (labels.Tell rec) ≡ Some (record { items = []; position = stand.position; registers = registers })
  pub placed : IsPlacedBy parts stand.position stand.place

-- the record is another
pub record CrossesNowhere (parts : SchemaParts) (at : ℕ) (taken : Bool) (rec : Record) : Type 0 where
  pub quiet : (way : Bool) (registers : List ℕ) → move_of parts (After at taken) registers (labels.Quiet way) ≡ None
  pub untold : (registers : List ℕ) → move_of parts (After at taken) registers (labels.Tell rec) ≡ None

abbrev pub Crosses : SchemaParts → (at : ℕ) → (taken : Bool) → Record → Crossing → Type 0
Crosses parts at taken rec (Quiet next) = CrossesQuietly parts at taken next
Crosses parts at taken rec (Told stand) = CrossesTold parts at taken rec stand
Crosses parts at taken rec Astray = CrossesNowhere parts at taken rec

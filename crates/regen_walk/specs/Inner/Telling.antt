-- The moves by which a word gives a record.
use Rattle.std.specs.Prelude.{◌≡◌, ℕ, Bool, true, false, List, [], ◌∷◌, Some, is_some}
use Rattle.ae_nums.specs.declared.item.Item.{Item}
use Rattle.rv_code.specs.declared.class.Class.{Class}
use Rattle.rv_code.specs.declared.class.Class.TheVariants as classes
use Rattle.rv_machine.specs.Outcomes.{TookFront}
use Rattle.ev_format.specs.declared.record.Record.{Record}
use Rattle.ev_format.specs.declared.record.Record.TheVariants.{Fall, Taken, Value, Landing, End}
use Rattle.schema_form.specs.SchemaParts.{SchemaParts}
use Rattle.regen_walk.specs.declared.position.Position.TheVariants.{Before}
use Rattle.regen_walk.specs.declared.telling.Stand.{Stand}
use Rattle.regen_walk.specs.Labels.{Label, Quiet, Tell}
use Rattle.regen_walk.specs.Moves.{Moved}
use Rattle.regen_walk.specs.Walks.{walk_from}
use Rattle.regen_walk.specs.WalkView.{IsPlacedBy}

-- the moves from before the word of a record up to and with the one that has it
abbrev pub last_moves : Record → List Label
last_moves (Fall at) = Quiet false ∷ Tell (Fall at) ∷ []
last_moves (Taken at) = Quiet true ∷ Tell (Taken at) ∷ []
last_moves (Value at value) = Tell (Value at value) ∷ []
last_moves (Landing at target values) = Tell (Landing at target values) ∷ []
last_moves (End at kind detail) = Tell (End at kind detail) ∷ []

-- with these registers they can be made from before the word at an address
abbrev pub may_tell : SchemaParts → (at : ℕ) → List ℕ → Record → Bool
may_tell parts at registers rec = is_some (walk_from parts (Before at) registers (last_moves rec))

-- a run may end at a word of the class
abbrev pub may_stop : Class → Bool
may_stop classes.Plain = false
may_stop classes.Load = true
may_stop classes.Store = true
may_stop classes.Branch = false
may_stop classes.Jump = false
may_stop classes.Indirect = false
may_stop classes.Call = true
may_stop classes.Stop = true

-- the record of the edge of a way
abbrev pub edge_record : (taken : Bool) → (at : ℕ) → Record
edge_record true at = Taken at
edge_record false at = Fall at

-- they were made, and their items were taken
pub record HasTold (parts : SchemaParts) (at : ℕ) (before : List ℕ) (rec : Record) (took : List Item → Type 0) (stand : Stand) (now : List ℕ) : Type 0 where
  pub moved : Moved
  pub made : walk_from parts (Before at) before (last_moves rec) ≡ Some moved
  pub given : took moved.items
  pub position : stand.position ≡ moved.position
  pub registers : now ≡ moved.registers
  pub placed : IsPlacedBy parts stand.position stand.place

-- the taker failed, and has a front of their items
pub record HasBrokenOff (parts : SchemaParts) (at : ℕ) (before : List ℕ) (rec : Record) (took : List Item → Type 0) : Type 0 where
  pub moved : Moved
  pub made : walk_from parts (Before at) before (last_moves rec) ≡ Some moved
  pub front : TookFront took moved.items

-- What `advance` promises.
use Rattle.std.specs.Prelude.{◌≡◌, ℕ, Bool, List, Some, Result, Ok, Err}
use Rattle.ae_nums.specs.declared.item.Item.{Item}
use Rattle.ae_ports.specs.Fault.{HasRisen}
use Rattle.rv_machine.specs.Outcomes.{TookFront}
use Rattle.ev_format.specs.declared.kind.RecordKind.{RecordKind}
use Rattle.ev_format.specs.declared.kind.RecordKind.TheVariants as kinds
use Rattle.ev_format.specs.declared.record.Record.{Record}
use Rattle.schema_form.specs.SchemaParts.{SchemaParts}
use Rattle.regen_walk.specs.declared.position.Position.{Position}
use Rattle.regen_walk.specs.declared.turn.Turn.{Turn}
use Rattle.regen_walk.specs.declared.turn.Turn.TheVariants.{Going, Stopped}
use Rattle.regen_walk.specs.declared.turn.WalkFault.{WalkFault}
use Rattle.regen_walk.specs.declared.turn.WalkFault.TheVariants.{Astray, Failed}
use Rattle.regen_walk.specs.Labels.{moves_to}
use Rattle.regen_walk.specs.Moves.{Moved}
use Rattle.regen_walk.specs.Walks.{walk_from}
use Rattle.regen_walk.specs.WalkView.{WalkParts}

-- moves from a position that end with this record, as their only one
pub record Tells (parts : SchemaParts) (position : Position) (registers : List ℕ) (rec : Record) (moved : Moved) : Type 0 where
  pub ways : List Bool
  pub made : walk_from parts position registers (moves_to ways rec) ≡ Some moved

-- the walk made these moves, and their items were taken
pub record IsMoved (took : List Item → Type 0) (walk : WalkParts) (moved : Moved) : Type 0 where
  pub given : took moved.items
  pub position : walk.position ≡ moved.position
  pub registers : walk.registers ≡ moved.registers

-- no moves from a position end with this record as their only one, and the walk is as before
pub record IsAstray (parts : SchemaParts) (position : Position) (before : WalkParts) (rec : Record) (now : WalkParts) : Type 0 where
  pub none : (moved : Moved) → Tells parts position before.registers rec moved → ⊥
  pub same : now ≡ before

-- the taker failed, and has a front of the items of the moves
pub record IsBrokenOff (parts : SchemaParts) (position : Position) (before : WalkParts) (rec : Record) (took : List Item → Type 0) : Type 0 where
  pub moved : Moved
  pub tells : Tells parts position before.registers rec moved
  pub front : TookFront took moved.items

-- what an advance from a position answers and leaves
abbrev pub AdvancesFrom : SchemaParts → Position → (before : WalkParts) → Record → (took : List Item → Type 0) → (now : WalkParts) → Result Turn WalkFault → Type 0
AdvancesFrom parts position before rec took now (Ok turn) = (moved : Moved) × Tells parts position before.registers rec moved × IsMoved took now moved
AdvancesFrom parts position before rec took now (Err Astray) = IsAstray parts position before rec now
AdvancesFrom parts position before rec took now (Err Failed) = IsBrokenOff parts position before rec took

-- what `advance` answers and leaves
abbrev pub WalkAdvances : SchemaParts → (before : WalkParts) → Record → (took : List Item → Type 0) → (now : WalkParts) → Result Turn WalkFault → Type 0
WalkAdvances parts before rec took now result = AdvancesFrom parts before.position before rec took now result

-- an End stops the walk, and no other record does
abbrev pub turn_by : RecordKind → Turn
turn_by kinds.Fall = Going
turn_by kinds.Taken = Going
turn_by kinds.Value = Going
turn_by kinds.Landing = Going
turn_by kinds.End = Stopped

-- the count of a taker's faults before a call and after it, beside what the call answered
abbrev pub WalkRises : ℕ → ℕ → Result Turn WalkFault → Type 0
WalkRises before now (Ok turn) = now ≡ before
WalkRises before now (Err Astray) = now ≡ before
WalkRises before now (Err Failed) = HasRisen before now

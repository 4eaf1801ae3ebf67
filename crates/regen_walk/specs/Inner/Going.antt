-- Going on without a record.
use Rattle.std.specs.Prelude.{◌≡◌, ℕ, ◌+◌, Bool, true, List, [], ◌∷◌, map, flat_map, Option, Some, ◌==◌}
use Rattle.std.specs.Option.{option_to_list}
use Rattle.ae_nums.specs.declared.item.Item.{Item}
use Rattle.ae_nums.specs.declared.item.Item.TheVariants.{Fetch}
use Rattle.rv_code.specs.declared.instr.Instr.{Instr}
use Rattle.rv_code.specs.declared.instr.Instr.TheVariants.{Lui, Auipc, Jal, Jalr, Branch, Load, Store, OpImm, Op, Fence, Ecall, Ebreak, Bad}
use Rattle.regen_path.specs.declared.arcs.Arc.{Arc}
use Rattle.regen_path.specs.declared.arcs.Ways.{Ways}
use Rattle.regen_path.specs.Arcs.{HasArc, way_from}
use Rattle.regen_path.specs.Walks.{IsWalk}
use Rattle.schema_form.specs.SchemaParts.{SchemaParts}
use Rattle.regen_walk.specs.declared.going.Onward.{Onward}
use Rattle.regen_walk.specs.declared.met.Met.{Met}
use Rattle.regen_walk.specs.declared.met.Spot.{Spot}
use Rattle.regen_walk.specs.declared.position.Position.TheVariants.{Before}
use Rattle.regen_walk.specs.Accesses.{carried_out_plain, with_written}
use Rattle.regen_walk.specs.FreeArcs.{goes_quietly, kind_number}
use Rattle.regen_walk.specs.Inner.Met.{IsSpot}
use Rattle.regen_walk.specs.Labels.{Quiet}
use Rattle.regen_walk.specs.Moves.{goes_on, is_kept, move_by_class}
use Rattle.regen_walk.specs.Walks.{walk_from}

-- by each way that needs no record the word goes on so
abbrev pub IsCarriedOut : (at : ℕ) → Met → (before : List ℕ) → (access : Option Item) → (now : List ℕ) → Type 0
IsCarriedOut at met before access now =
    (parts : SchemaParts) (taken : Bool) → goes_quietly (is_kept met.word) taken met.class ≡ true
    → move_by_class parts at met.word before met.class (Quiet taken) ≡ Some (goes_on at access taken now)

-- The registers behind an instruction that goes on without a record: a Plain one writes what it works out, a jump its link, and all else
-- leaves them.
abbrev pub registers_behind : Instr → (at : ℕ) → List ℕ → List ℕ
registers_behind (Lui rd imm) at registers = carried_out_plain (Lui rd imm) at registers
registers_behind (Auipc rd imm) at registers = carried_out_plain (Auipc rd imm) at registers
registers_behind (OpImm op rd rs1 imm) at registers = carried_out_plain (OpImm op rd rs1 imm) at registers
registers_behind (Op op rd rs1 rs2) at registers = carried_out_plain (Op op rd rs1 rs2) at registers
registers_behind (Jal rd imm) at registers = with_written (Jal rd imm) registers (at + 4)
registers_behind (Jalr rd rs1 imm) at registers = registers
registers_behind (Branch op rs1 rs2 imm) at registers = registers
registers_behind (Load op rd rs1 imm) at registers = registers
registers_behind (Store op rs1 rs2 imm) at registers = registers
registers_behind (Fence word) at registers = registers
registers_behind Ecall at registers = registers
registers_behind Ebreak at registers = registers
registers_behind (Bad word) at registers = registers

-- a walk towards a goal begins so
pub record LeadsOn (ways : List Ways) (here goal : ℕ) (onward : Onward) : Type 0 where
  pub arc : Arc
  pub rest : List Arc
  pub walks : IsWalk (HasArc ways) here goal (arc ∷ rest)
  pub kind : arc.kind ≡ kind_number onward.taken
  pub way : way_from ways (kind_number onward.taken) here ≡ Some onward.place

-- the items of a word
abbrev pub items_at : (at : ℕ) → (access : Option Item) → List Item
items_at at access = Fetch at ∷ option_to_list access

-- over the edge of a way from the word at one spot, which needs no record, to that at another
pub record PassesOver (parts : SchemaParts) (taken : Bool) (from to : Spot) (before now : List ℕ) (access : Option Item) : Type 0 where
  pub moves : walk_from parts (Before from.address) before (Quiet taken ∷ Quiet taken ∷ [])
      ≡ Some (record { items = items_at from.address access; position = Before to.address; registers = now })
  pub spot : IsSpot parts to

-- the ways of the moves along arcs: one for each word, and one for the edge behind it
abbrev pub ways_along : List Arc → List Bool
ways_along walk = flat_map (λ (arc : Arc). (arc.kind == 1) ∷ (arc.kind == 1) ∷ []) walk

-- along these arcs, from before the word at one address to before that at another
abbrev pub GoesAlong : SchemaParts → List Arc → (from to : ℕ) → (before now : List ℕ) → List Item → Type 0
GoesAlong parts walk from to before now items =
    walk_from parts (Before from) before (map Quiet (ways_along walk)) ≡ Some (record { items = items; position = Before to; registers = now })

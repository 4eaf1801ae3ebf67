-- The moves of a walk over a schema: this project's own. A walk goes where the words lead, word by word, and takes from records what it
-- can't know. Memory isn't part of it.
use Rattle.std.specs.Prelude.{ℕ, ◌+◌, ◌%◌, ◌==◌, ◌&&◌, Bool, true, false, List, [], ◌∷◌, length, Option, Some, None, if◌then◌else◌}
use Rattle.std.specs.Option.{option_and_then, option_map, option_map_or, option_to_list}
use Rattle.ae_nums.specs.declared.item.Item.{Item}
use Rattle.ae_nums.specs.declared.item.Item.TheVariants.{Fetch}
use Rattle.rv_code.specs.declared.class.Class.{Class}
use Rattle.rv_code.specs.declared.class.Class.TheVariants.{Plain, Load, Store, Branch, Jump, Indirect, Call, Stop}
use Rattle.rv_code.specs.declared.ending.Ending.TheVariants.{FetchFault, JumpMisaligned}
use Rattle.rv_code.specs.Endings.{kind_of}
use Rattle.rv_code.specs.Table.{meaning_of}
use Rattle.rv_machine.specs.State.{with_register}
use Rattle.ev_format.specs.declared.record.Record.TheVariants.{Fall, Taken, Value, Landing, End}
use Rattle.ev_format.specs.Shapes.{registers_needed, value_count}
use Rattle.schema_form.specs.declared.flags.TheConstants.{KEPT}
use Rattle.schema_form.specs.declared.word.SchemaWord.{SchemaWord}
use Rattle.schema_form.specs.Flags.{class_in, is_set}
use Rattle.schema_form.specs.LookUps.{schema_word_at, schema_shape}
use Rattle.schema_form.specs.Rules.{way_of, witness_mark}
use Rattle.schema_form.specs.SchemaParts.{SchemaParts}
use Rattle.regen_walk.specs.declared.position.Position.{Position}
use Rattle.regen_walk.specs.declared.position.Position.TheVariants.{Before, After, Outside, Stopped}
use Rattle.regen_walk.specs.Accesses.{access_by, may_end, with_written, carried_out_plain}
use Rattle.regen_walk.specs.Labels.{Label, Quiet, Tell}
use Rattle.regen_walk.specs.Registers.{with_values}

-- what comes of a move, or of some: the items, and where it leads
pub record Moved : Type 0 where
  pub items : List Item
  pub position : Position
  pub registers : List ℕ

abbrev pub is_kept : SchemaWord → Bool
is_kept word = is_set KEPT word.flags

-- the word at an address is fetched, with this access if it has one, and goes on by a way
abbrev pub goes_on : (at : ℕ) → (access : Option Item) → (taken : Bool) → List ℕ → Moved
goes_on at access taken registers = record { items = Fetch at ∷ option_to_list access; position = After at taken; registers = registers }

-- the word at an address is fetched, and the run ends there
abbrev pub ends_at : (at : ℕ) → List ℕ → Moved
ends_at at registers = record { items = Fetch at ∷ []; position = Stopped; registers = registers }

-- before the code word at an address, or outside where none stands there
abbrev pub placed_at : SchemaParts → (address : ℕ) → Position
placed_at parts address = option_map_or (λ (word : SchemaWord). Before address) (schema_word_at parts address) (Outside address)

-- the registers that are needed at a target
abbrev pub needed_at : SchemaParts → (target : ℕ) → List ℕ
needed_at parts target = registers_needed ((schema_shape parts).needs target)

-- the indirect jump at an address is fetched, and lands with these values
abbrev pub lands : SchemaParts → (at target : ℕ) → (values : List ℕ) → List ℕ → Moved
lands parts at target values registers =
    record { items = Fetch at ∷ []; position = placed_at parts target; registers = with_values registers (needed_at parts target) values }

-- The move that a label names from before the word at an address, with what a schema has for the word and with its class: a clause for
-- each class and label that have one.
abbrev pub move_by_class : SchemaParts → (at : ℕ) → SchemaWord → List ℕ → Class → Label → Option Moved
move_by_class parts at word registers Plain (Quiet false) =
    Some (goes_on at None false (if is_kept word then carried_out_plain (meaning_of word.raw) at registers else registers))
move_by_class parts at word registers Load (Quiet false) =
    if is_kept word then None else Some (goes_on at (access_by (meaning_of word.raw) registers) false registers)
move_by_class parts at word registers Load (Tell (Value from value)) =
    if (from == at) && is_kept word
    then Some (goes_on at (access_by (meaning_of word.raw) registers) false (with_written (meaning_of word.raw) registers value))
    else None
move_by_class parts at word registers Load (Tell (End from kind detail)) =
    if (from == at) && may_end (meaning_of word.raw) registers kind detail then Some (ends_at at registers) else None
move_by_class parts at word registers Store (Quiet false) = Some (goes_on at (access_by (meaning_of word.raw) registers) false registers)
move_by_class parts at word registers Store (Tell (End from kind detail)) =
    if (from == at) && may_end (meaning_of word.raw) registers kind detail then Some (ends_at at registers) else None
move_by_class parts at word registers Branch (Quiet taken) = Some (goes_on at None taken registers)
move_by_class parts at word registers Jump (Quiet true) =
    Some (goes_on at None true (with_written (meaning_of word.raw) registers (at + 4)))
move_by_class parts at word registers Call (Tell (Value from value)) =
    if from == at then Some (goes_on at None false (with_register registers 10 value)) else None
move_by_class parts at word registers Call (Tell (End from kind detail)) =
    if (from == at) && may_end (meaning_of word.raw) registers kind detail then Some (ends_at at registers) else None
move_by_class parts at word registers Indirect (Tell (Landing from target values)) =
    if (from == at) && (target % 2 == 0) && (length values == value_count (schema_shape parts) target)
    then Some (lands parts at target values (with_written (meaning_of word.raw) registers (at + 4)))
    else None
move_by_class parts at word registers Stop (Tell (End from kind detail)) =
    if (from == at) && may_end (meaning_of word.raw) registers kind detail then Some (ends_at at registers) else None
move_by_class parts at word registers class label = None

-- the label names the edge of a way from an address: by its record where the edge is marked, else by the way
abbrev pub names_edge : (at : ℕ) → (taken marked : Bool) → Label → Bool
names_edge at true true (Tell (Taken from)) = from == at
names_edge at false true (Tell (Fall from)) = from == at
names_edge at true false (Quiet true) = true
names_edge at false false (Quiet false) = true
names_edge at taken marked label = false

-- the move over the edge of a way from an address, if the word there has that way; it has no items
abbrev pub move_over : SchemaParts → (at : ℕ) → (taken : Bool) → SchemaWord → List ℕ → Class → Label → Option Moved
move_over parts at taken word registers class label =
    if names_edge at taken (is_set (witness_mark taken) word.flags) label
    then option_map
    (λ target. record { items = []; position = placed_at parts target; registers = registers })
    (way_of taken class word.raw at)
    else None

-- the run ends where no code word stands: its fetch fails where that is a multiple of 4, else the jump there was misaligned
abbrev pub move_outside : (target : ℕ) → List ℕ → Label → Option Moved
move_outside target registers (Tell (End from kind detail)) =
    if (from == 0) && (kind == (if target % 4 == 0 then kind_of (FetchFault target) else kind_of (JumpMisaligned target))) && (detail == target)
    then Some (record { items = []; position = Stopped; registers = registers })
    else None
move_outside target registers (Tell (Fall from)) = None
move_outside target registers (Tell (Taken from)) = None
move_outside target registers (Tell (Value from value)) = None
move_outside target registers (Tell (Landing from to values)) = None
move_outside target registers (Quiet taken) = None

-- a move that depends on the word at an address and its class
abbrev pub by_word_at : SchemaParts → (at : ℕ) → (SchemaWord → Class → Option Moved) → Option Moved
by_word_at parts at moved = option_and_then (λ (word : SchemaWord). option_and_then (moved word) (class_in word.flags)) (schema_word_at parts at)

-- the move that a label names, with these registers, if there is one
unfoldable pub move_of : SchemaParts → Position → List ℕ → Label → Option Moved
move_of parts (Before at) registers label = by_word_at parts at (λ word class. move_by_class parts at word registers class label)
move_of parts (After at taken) registers label = by_word_at parts at (λ word class. move_over parts at taken word registers class label)
move_of parts (Outside target) registers label = move_outside target registers label
move_of parts Stopped registers label = None

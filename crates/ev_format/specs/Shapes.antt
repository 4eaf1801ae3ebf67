-- The shape of a program's event files: what their header names, and which records may stand in them. This project's own.
use Rattle.std.specs.Prelude.{◌≡◌, ℕ, ◌%◌, Bool, true, false, ◌==◌, ◌||◌, ⊤, List, [], length, Option, IfSome}
use Rattle.std.specs.List.{AllByRecursion}
use Rattle.std.specs.Option.{option_map_or}
use Rattle.ae_nums.specs.EventHeader.{event_header}
use Rattle.ae_nums.specs.Registers.{registers_of}
use Rattle.rv_code.specs.Numbers.{IsWord}
use Rattle.ev_format.specs.declared.kind.RecordKind.{RecordKind}
use Rattle.ev_format.specs.declared.kind.RecordKind.TheVariants as kinds
use Rattle.ev_format.specs.declared.record.Record.{Record}
use Rattle.ev_format.specs.declared.record.Record.TheVariants.{Fall, Taken, Value, Landing, End}
use Rattle.ev_format.specs.declared.slot.Slot.{Slot}
use Rattle.ev_format.specs.Spelling.{kind_in, address_in, record_words}

-- the entry, the address of the first code word, and how many there are; which records an address may have; and the mask of the
-- registers that are needed at an address where a code word stands
pub record ShapeView : Type 0 where
  pub entry : ℕ
  pub first : ℕ
  pub count : ℕ
  pub slot : ℕ → Slot
  pub needs : ℕ → Option ℕ

-- no address has both a value and a landing, and bit 0 of each mask is clear
pub record IsShape (shape : ShapeView) : Type 0 where
  pub apart : (address : ℕ) → (shape.slot address).value ≡ true → (shape.slot address).landing ≡ false
  pub clear : (target : ℕ) → IfSome (shape.needs target) (λ mask. mask % 2 ≡ 0)

-- the header, by what the program is known by
abbrev pub shape_header : ShapeView → List ℕ
shape_header shape = event_header shape.entry shape.first shape.count

-- An address of this slot may have a record of this kind. A run may also end at address 0, where no word was carried out.
abbrev pub takes_kind : Slot → ℕ → RecordKind → Bool
takes_kind slot at kinds.Fall = slot.fall
takes_kind slot at kinds.Taken = slot.taken
takes_kind slot at kinds.Value = slot.value
takes_kind slot at kinds.Landing = slot.landing
takes_kind slot at kinds.End = (at == 0) || slot.code

abbrev pub has_slot : ShapeView → ℕ → RecordKind → Bool
has_slot shape at kind = takes_kind (shape.slot at) at kind

-- the registers that are needed at an address, in rising order; none where no code word stands there
abbrev pub registers_needed : (needs : Option ℕ) → List ℕ
registers_needed needs = option_map_or registers_of needs []

-- how many values a landing has: one for each register that its target needs
abbrev pub value_count : ShapeView → ℕ → ℕ
value_count shape target = length (registers_needed (shape.needs target))

-- a landing has as many values as its target needs
abbrev pub HasValues : ShapeView → Record → Type 0
HasValues shape (Fall at) = ⊤
HasValues shape (Taken at) = ⊤
HasValues shape (Value at value) = ⊤
HasValues shape (Landing at target values) = length values ≡ value_count shape target
HasValues shape (End at kind detail) = ⊤

-- the record may stand in an event file of this shape
pub record HasRecord (shape : ShapeView) (rec : Record) : Type 0 where
  pub aligned : address_in rec % 4 ≡ 0
  pub slot : has_slot shape (address_in rec) (kind_in rec) ≡ true
  pub values : HasValues shape rec
  pub words : AllByRecursion IsWord (record_words rec)

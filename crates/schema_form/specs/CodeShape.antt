-- The shape of a program's event files, by its code and by marks of witness edges alone: this project's own.
use Rattle.std.specs.Prelude.{◌≡◌, ◌↔◌, ◌⊎◌, ℕ, Bool, false, true, IfSome, IsTrue, List, Option, Some, is_some}
use Rattle.std.specs.Int.{bit_at}
use Rattle.rv_code.specs.declared.class.Class.TheVariants.{Load, Indirect, Call}
use Rattle.rv_code.specs.declared.image.Range.{Range}
use Rattle.rv_code.specs.Code.{extents_of, is_code}
use Rattle.rv_code.specs.Image.{word_count}
use Rattle.flow_graph.specs.CodeParts.{CodeParts}
use Rattle.need_sets.specs.Needed.{IsNeeded, IsHard}
use Rattle.need_sets.specs.Words.{class_at}
use Rattle.ev_format.specs.declared.slot.Slot.{Slot}
use Rattle.ev_format.specs.Shapes.{ShapeView, IsShape}
use Rattle.schema_form.specs.LookUps.{first_start, schema_shape, schema_word_at}
use Rattle.schema_form.specs.OfImage.{IsRecorded, IsSchemaOf, IsSchemaWordOf}
use Rattle.schema_form.specs.SchemaParts.{SchemaParts}

-- the value that the word gives is recorded: that of a hard load, or of a call
abbrev pub RecordsValue : List Range → (address : ℕ) → Type 0
RecordsValue code address = ((class_at code address ≡ Some Load) × IsHard code address) ⊎ (class_at code address ≡ Some Call)

-- the address has exactly the records of the code word there
pub record IsSlotOf (parts : CodeParts) (marks : List Bool) (address : ℕ) (slot : Slot) : Type 0 where
  pub code : slot.code ≡ is_code (extents_of parts.code) address
  pub fall : IsTrue slot.fall ↔ IsRecorded parts marks false address
  pub taken : IsTrue slot.taken ↔ IsRecorded parts marks true address
  pub value : IsTrue slot.value ↔ RecordsValue parts.code address
  pub landing : IsTrue slot.landing ↔ (class_at parts.code address ≡ Some Indirect)

-- where a code word stands at the address, the mask of the registers that it needs, and of no others
pub record AreNeedsAt (code : List Range) (address : ℕ) (needs : Option ℕ) : Type 0 where
  pub there : is_some needs ≡ is_code (extents_of code) address
  pub needed : IfSome needs (λ mask. (register : ℕ) → (bit_at mask register ≡ 1) ↔ IsNeeded code address register)

-- the shape of the code under the marks
pub record IsShapeOf (parts : CodeParts) (marks : List Bool) (shape : ShapeView) : Type 0 where
  pub entry : shape.entry ≡ parts.entry
  pub first : shape.first ≡ first_start (extents_of parts.code)
  pub count : shape.count ≡ word_count parts.code
  pub slot : (address : ℕ) → IsSlotOf parts marks address (shape.slot address)
  pub needs : (target : ℕ) → AreNeedsAt parts.code target (shape.needs target)

-- the schema has a word for exactly the addresses of code words, and it is the one that its definition asks for there
pub record FindsItsWords (parts : CodeParts) (marks : List Bool) (schema : SchemaParts) : Type 0 where
  pub there : (address : ℕ) → is_some (schema_word_at schema address) ≡ is_code (extents_of parts.code) address
  pub words : (address : ℕ) → IfSome (schema_word_at schema address) (IsSchemaWordOf parts marks address)

abbrev pub SchemasFindTheirWords : Type 0
SchemasFindTheirWords = (parts : CodeParts) (marks : List Bool) (schema : SchemaParts) → IsSchemaOf parts marks schema → FindsItsWords parts marks schema

-- the schema of code under marks has the shape of the code under these marks
abbrev pub SchemasHaveTheShape : Type 0
SchemasHaveTheShape =
    (parts : CodeParts) (marks : List Bool) (schema : SchemaParts) → IsSchemaOf parts marks schema → IsShapeOf parts marks (schema_shape schema)

-- and such a shape is one that event files are read by
abbrev pub ShapesOfCodeAreShapes : Type 0
ShapesOfCodeAreShapes = (parts : CodeParts) (marks : List Bool) (shape : ShapeView) → IsShapeOf parts marks shape → IsShape shape

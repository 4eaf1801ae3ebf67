-- Which schema is that of code, where some edges between its blocks are marked as witnesses: this project's own.
use Rattle.std.specs.Prelude.{◌≡◌, ◌↔◌, ◌⊎◌, ℕ, ◌+◌, Bool, true, false, not, ◌&&◌, ◌==◌, IsTrue, List, Some, length, slice_get, if◌then◌else◌}
use Rattle.std.specs.Int.{bit_at}
use Rattle.rv_code.specs.declared.class.Class.{Class}
use Rattle.rv_code.specs.declared.class.Class.TheVariants.{Load}
use Rattle.rv_code.specs.declared.image.Range.{Range}
use Rattle.rv_code.specs.Code.{code_word, extents_of}
use Rattle.rv_code.specs.Image.{word_count}
use Rattle.rv_code.specs.Parts.{class_of}
use Rattle.rv_code.specs.Places.{address_of}
use Rattle.rv_code.specs.Table.{meaning_of}
use Rattle.flow_graph.specs.declared.edge.Edge.{Edge}
use Rattle.flow_graph.specs.CodeParts.{CodeParts}
use Rattle.flow_graph.specs.Edges.{edges_of, kind_by}
use Rattle.flow_graph.specs.Leaders.{is_leader}
use Rattle.flow_tree.specs.WitnessEdges.{IsMarked}
use Rattle.need_sets.specs.Needed.{IsNeeded, IsKept, IsHard}
use Rattle.need_sets.specs.Words.{class_at}
use Rattle.schema_form.specs.declared.flags.TheConstants.{LEADER, FALL_WITNESS, TAKEN_WITNESS, KEPT}
use Rattle.schema_form.specs.declared.word.SchemaWord.{SchemaWord}
use Rattle.schema_form.specs.Flags.{class_number}
use Rattle.schema_form.specs.SchemaParts.{SchemaParts}

-- an edge leaves the word at the address by this way, and it is marked
pub record IsRecorded (parts : CodeParts) (marks : List Bool) (taken : Bool) (address : ℕ) : Type 0 where
  pub number : ℕ
  pub edge : Edge
  pub there : slice_get (edges_of parts) number ≡ Some edge
  pub from : edge.from ≡ address
  pub kind : edge.kind ≡ kind_by taken
  pub marked : IsMarked marks number

-- what the word gives has to be worked out again, or, of a load, has to be recorded
abbrev pub GivesKept : List Range → (address : ℕ) → Type 0
GivesKept code address = IsKept code address ⊎ ((class_at code address ≡ Some Load) × IsHard code address)

abbrev pub mark_if : (mark : ℕ) → (set : Bool) → ℕ
mark_if mark set = if set then mark else 0

-- the number of the class, and the marks
abbrev pub flags_of : Class → (leader fall taken kept : Bool) → ℕ
flags_of class leader fall taken kept =
    class_number class + mark_if LEADER leader + mark_if FALL_WITNESS fall + mark_if TAKEN_WITNESS taken + mark_if KEPT kept

-- the code word, left out as 0 where it is Plain and isn't kept
abbrev pub raw_word_of : Class → (kept : Bool) → (value : ℕ) → ℕ
raw_word_of class kept value = if (class_number class == 0) && not kept then 0 else value

-- what the schema has for the code word at the address: bit k of the mask is set where it needs x(k)
pub record IsSchemaWordOf (parts : CodeParts) (marks : List Bool) (address : ℕ) (word : SchemaWord) : Type 0 where
  pub value : ℕ
  pub fall : Bool
  pub taken : Bool
  pub kept : Bool
  pub there : code_word parts.code address ≡ Some value
  pub is_fall : IsTrue fall ↔ IsRecorded parts marks false address
  pub is_taken : IsTrue taken ↔ IsRecorded parts marks true address
  pub is_kept : IsTrue kept ↔ GivesKept parts.code address
  pub flags : word.flags ≡ flags_of (class_of (meaning_of value)) (is_leader parts address) fall taken kept
  pub raw : word.raw ≡ raw_word_of (class_of (meaning_of value)) kept value
  pub needs : (register : ℕ) → (bit_at word.mask register ≡ 1) ↔ IsNeeded parts.code address register

-- one for each of the first so many code words, in the order of their addresses
pub record AreSchemaWordsOf (parts : CodeParts) (marks : List Bool) (total : ℕ) (words : List SchemaWord) : Type 0 where
  pub count : length words ≡ total
  pub each :
      (place address : ℕ) (word : SchemaWord) → address_of (extents_of parts.code) place ≡ Some address → slice_get words place ≡ Some word
      → IsSchemaWordOf parts marks address word

-- the schema of the code
pub record IsSchemaOf (parts : CodeParts) (marks : List Bool) (schema : SchemaParts) : Type 0 where
  pub entry : schema.entry ≡ parts.entry
  pub stretches : schema.stretches ≡ extents_of parts.code
  pub words : AreSchemaWordsOf parts marks (word_count parts.code) schema.words

-- code under given marks has one schema
abbrev pub SchemasAreDetermined : Type 0
SchemasAreDetermined =
    (parts : CodeParts) (marks : List Bool) (one other : SchemaParts) → IsSchemaOf parts marks one → IsSchemaOf parts marks other → one ≡ other

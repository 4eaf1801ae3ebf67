-- Laws of walks: this project's own.
use Rattle.std.specs.Prelude.{◌≡◌, ℕ, Bool, List, [], ◌∷◌, ◌++◌}
use Rattle.ae_nums.specs.declared.item.Item.{Item}
use Rattle.ev_format.specs.declared.record.Record.{Record}
use Rattle.schema_form.specs.SchemaParts.{SchemaParts}
use Rattle.schema_form.specs.Valid.{IsSchema}
use Rattle.regen_walk.specs.Labels.{Label, Quiet, Tell}
use Rattle.regen_walk.specs.Walks.{AreItemsOf, Explains, IsExplained, IsShortest}
use Rattle.regen_walk.specs.declared.replaying.Halted.{Halted}
use Rattle.regen_walk.specs.Regenerated.{IsRegenerated}

-- a way before these labels, or none of all where there are none
abbrev pub quiet_before : (taken : Bool) → List Label → List Label
quiet_before taken [] = []
quiet_before taken (label ∷ labels) = Quiet taken ∷ label ∷ labels

-- the labels up to and with that of the last record
abbrev pub up_to_last : List Label → List Label
up_to_last [] = []
up_to_last (Quiet taken ∷ labels) = quiet_before taken (up_to_last labels)
up_to_last (Tell rec ∷ labels) = Tell rec ∷ up_to_last labels

-- two walks with the same records are one, up to and with the move that has the last
abbrev pub SameRecordsSameWalk : Type 0
SameRecordsSameWalk =
    (parts : SchemaParts) → IsSchema parts → (records : List Record) (one other : List Label) → Explains parts records one → Explains parts records other → up_to_last one ≡ up_to_last other

-- a walk that goes no further than that is the shortest with its records
abbrev pub ShortestEndsWithRecord : Type 0
ShortestEndsWithRecord = (parts : SchemaParts) → IsSchema parts → (records : List Record) (labels : List Label) → Explains parts records labels → IsShortest parts records (up_to_last labels)

-- explained records have one list of items
pub record HaveItems (parts : SchemaParts) (records : List Record) : Type 0 where
  pub items : List Item
  pub are : AreItemsOf parts records items
  pub only : (other : List Item) → AreItemsOf parts records other → other ≡ items

abbrev pub ExplainedHaveItems : Type 0
ExplainedHaveItems = (parts : SchemaParts) → IsSchema parts → (records : List Record) → IsExplained parts records → HaveItems parts records

-- a front of explained records is explained
abbrev pub FrontsAreExplained : Type 0
FrontsAreExplained = (parts : SchemaParts) (records more : List Record) → IsExplained parts (records ++ more) → IsExplained parts records

-- bytes give back one list of items, and one reason why there are no more
abbrev pub OneIsRegenerated : Type 0
OneIsRegenerated =
    (parts : SchemaParts) → IsSchema parts → (bytes : List ℕ) (one other : Halted) (items others : List Item) → IsRegenerated parts bytes one items → IsRegenerated parts bytes other others
    → (one ≡ other) × (items ≡ others)

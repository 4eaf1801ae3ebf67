-- What moves of a walk are named by: this project's own.
use Rattle.std.specs.Prelude.{Bool, List, [], ◌∷◌, ◌++◌, map}
use Rattle.ev_format.specs.declared.record.Record.{Record}

-- a move is named by its record, or where it has none by the way that it goes: `true` is taken
pub data Label : Type 0 where
  Quiet : (taken : Bool) → Label
  Tell : Record → Label

-- the records of moves, in order
abbrev pub records_in : List Label → List Record
records_in [] = []
records_in (Quiet taken ∷ labels) = records_in labels
records_in (Tell rec ∷ labels) = rec ∷ records_in labels

-- moves without a record that go by these ways, and then one that has this record
abbrev pub moves_to : (ways : List Bool) → Record → List Label
moves_to ways rec = map Quiet ways ++ Tell rec ∷ []

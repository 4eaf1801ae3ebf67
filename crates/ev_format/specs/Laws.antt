-- What the format gives to those who write event files and read them.
use Rattle.std.specs.Prelude.{◌≡◌, ◌⊎◌, ℕ, List, [], ◌∷◌, ◌++◌}
use Rattle.std.specs.List.{AllByRecursion, flat_map}
use Rattle.ev_format.specs.declared.kind.RecordKind.TheVariants as kinds
use Rattle.ev_format.specs.declared.place.Place.{Place}
use Rattle.ev_format.specs.declared.place.Place.TheVariants.{Start}
use Rattle.ev_format.specs.declared.record.Record.{Record}
use Rattle.ev_format.specs.declared.stop.Stop.{Stop}
use Rattle.ev_format.specs.declared.stop.Stop.TheVariants.{Finished}
use Rattle.ev_format.specs.Reading.{BeginsWith, Reading, offset_behind}
use Rattle.ev_format.specs.Shapes.{ShapeView, HasRecord, shape_header}
use Rattle.ev_format.specs.Spelling.{kind_in, record_bytes}

-- two readings of the same bytes from the same place are the same
abbrev pub IsOnlyReading : ShapeView → Type 0
IsOnlyReading shape =
    (place : Place) (bytes : List ℕ) (records others : List (ℕ × Record)) (stop other : Stop)
    → Reading shape place bytes records stop → Reading shape place bytes others other → (records ≡ others) × (stop ≡ other)

-- Of two lists of records that stand at the front of the same bytes, one begins with the other.
abbrev pub HaveOneFront : ShapeView → Type 0
HaveOneFront shape =
    (place : Place) (bytes : List ℕ) (records others : List (ℕ × Record)) → BeginsWith shape place bytes records → BeginsWith shape place bytes others
    → ((more : List (ℕ × Record)) × (others ≡ records ++ more)) ⊎ ((more : List (ℕ × Record)) × (records ≡ others ++ more))

-- a reading begins with each list of records that stand at the front of its bytes
abbrev pub HasFronts : ShapeView → Type 0
HasFronts shape =
    (place : Place) (bytes : List ℕ) (records others : List (ℕ × Record)) (stop : Stop) → Reading shape place bytes records stop → BeginsWith shape place bytes others
    → (more : List (ℕ × Record)) × (records ≡ others ++ more)

-- two records with the same bytes at the front of the same bytes are the same
abbrev pub HasOneSpelling : ShapeView → Type 0
HasOneSpelling shape =
    (rec other : Record) (rest behind : List ℕ)
    → HasRecord shape rec → HasRecord shape other → record_bytes rec ++ rest ≡ record_bytes other ++ behind → (rec ≡ other) × (rest ≡ behind)

-- the last record and no other is an End
abbrev pub EndsOnce : List Record → Type 0
EndsOnce [] = ⊥
EndsOnce (rec ∷ []) = kind_in rec ≡ kinds.End
EndsOnce (rec ∷ next ∷ records) = (kind_in rec ≡ kinds.End → ⊥) × EndsOnce (next ∷ records)

-- records that stand one behind the other from an offset on, each with its own
abbrev pub with_offsets : ℕ → List Record → List (ℕ × Record)
with_offsets offset [] = []
with_offsets offset (rec ∷ records) = (offset, rec) ∷ with_offsets (offset_behind offset (record_bytes rec)) records

-- the event file of these records
abbrev pub file_of_records : ShapeView → List Record → List ℕ
file_of_records shape records = shape_header shape ++ flat_map record_bytes records

-- the file of records that end once is read back as these
abbrev pub IsReadBack : ShapeView → Type 0
IsReadBack shape =
    (records : List Record) → AllByRecursion (HasRecord shape) records → EndsOnce records
    → Reading shape Start (file_of_records shape records) (with_offsets 16 records) Finished

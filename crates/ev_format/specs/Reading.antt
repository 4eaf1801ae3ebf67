-- What the bytes of an event file say to a program of some shape: the whole records at their front, each with its offset, and why
-- reading stopped. This project's own.
use Rattle.std.specs.Prelude.{◌≡◌, ◌≢◌, ◌⊎◌, ℕ, ⊤, ◌+◌, ◌-◌, ◌%◌, ◌^◌, ◌<◌, ◌≤◌, min, false, List, [], ◌∷◌, ◌++◌, length, take, Option, Some, None}
use Rattle.rv_code.specs.Numbers.{IsWord, bytes_of}
use Rattle.ev_format.specs.declared.kind.RecordKind.{RecordKind}
use Rattle.ev_format.specs.declared.kind.RecordKind.TheVariants as kinds
use Rattle.ev_format.specs.declared.place.Place.{Place}
use Rattle.ev_format.specs.declared.place.Place.TheVariants.{Start, Within, Ended}
use Rattle.ev_format.specs.declared.record.Record.{Record}
use Rattle.ev_format.specs.declared.stop.Stop.{Stop}
use Rattle.ev_format.specs.declared.stop.Stop.TheVariants.{Cut, Finished, OtherProgram, BadRecord}
use Rattle.ev_format.specs.Shapes.{ShapeView, shape_header, has_slot, HasRecord}
use Rattle.ev_format.specs.Spelling.{kind_in, kind_bits, record_bytes}

-- an offset that would pass 2^64 - 1 is 2^64 - 1
abbrev pub offset_behind : ℕ → List ℕ → ℕ
offset_behind offset bytes = min (offset + length bytes) (2 ^ 64 - 1)

-- nothing may stand behind an End
abbrev pub place_by : RecordKind → ℕ → Place
place_by kinds.Fall offset = Within offset
place_by kinds.Taken offset = Within offset
place_by kinds.Value offset = Within offset
place_by kinds.Landing offset = Within offset
place_by kinds.End offset = Ended offset

-- where reading stands behind a record that begins at an offset
abbrev pub place_behind : ℕ → Record → Place
place_behind offset rec = place_by (kind_in rec) (offset_behind offset (record_bytes rec))

-- the offset of a record that is next, where one may be
abbrev pub next_offset : Place → Option ℕ
next_offset Start = Some 16
next_offset (Within offset) = Some offset
next_offset (Ended offset) = None

-- what stands before a record that is next
abbrev pub header_before : ShapeView → Place → List ℕ
header_before shape Start = shape_header shape
header_before shape (Within offset) = []
header_before shape (Ended offset) = []

-- a record of the shape may be next, at this offset
abbrev pub MayBeNext : ShapeView → Place → ℕ → Record → Type 0
MayBeNext shape place offset rec = (next_offset place ≡ Some offset) × HasRecord shape rec

-- no address has a slot for a record that begins with this word
abbrev pub NamesNoSlot : ShapeView → ℕ → Type 0
NamesNoSlot shape word =
    (at : ℕ) (kind : RecordKind) → at % 4 ≡ 0 → at + kind_bits kind ≡ word → has_slot shape at kind ≡ false

-- a whole word stands at the front, and names no slot
pub record IsBad (shape : ShapeView) (bytes : List ℕ) : Type 0 where
  pub word : ℕ
  pub rest : List ℕ
  pub in_range : IsWord word
  pub front : bytes ≡ bytes_of 4 word ++ rest
  pub slotless : NamesNoSlot shape word

-- no whole record stands at the front, and no bad word
pub record IsCut (shape : ShapeView) (bytes : List ℕ) : Type 0 where
  pub no_record : (rec : Record) (rest : List ℕ) → HasRecord shape rec → bytes ≢ record_bytes rec ++ rest
  pub not_bad : ¬ IsBad shape bytes

-- reading stops at the header
abbrev pub HeaderStops : ShapeView → List ℕ → Stop → Type 0
HeaderStops shape bytes Cut = length bytes < 16
HeaderStops shape bytes Finished = ⊥
HeaderStops shape bytes OtherProgram = (16 ≤ length bytes) × (take 16 bytes ≢ shape_header shape)
HeaderStops shape bytes (BadRecord offset) = ⊥

-- reading stops where a record may begin, at an offset
abbrev pub RecordStops : ShapeView → ℕ → List ℕ → Stop → Type 0
RecordStops shape offset bytes Cut = IsCut shape bytes
RecordStops shape offset bytes Finished = ⊥
RecordStops shape offset bytes OtherProgram = ⊥
RecordStops shape offset bytes (BadRecord bad) = (bad ≡ offset) × IsBad shape bytes

-- reading stops behind an End, at an offset
abbrev pub EndStops : ℕ → List ℕ → Stop → Type 0
EndStops offset bytes Cut = ⊥
EndStops offset bytes Finished = bytes ≡ []
EndStops offset bytes OtherProgram = ⊥
EndStops offset bytes (BadRecord bad) = (bad ≡ offset) × (bytes ≢ [])

-- no record is next, and why
abbrev pub StopsWith : ShapeView → Place → List ℕ → Stop → Type 0
StopsWith shape Start bytes stop =
    HeaderStops shape bytes stop ⊎ ((rest : List ℕ) × (bytes ≡ shape_header shape ++ rest) × RecordStops shape 16 rest stop)
StopsWith shape (Within offset) bytes stop = RecordStops shape offset bytes stop
StopsWith shape (Ended offset) bytes stop = EndStops offset bytes stop

-- The reading of the bytes that are left at a place: these records, each with its offset, and then a stop. A record is next, with what
-- is read behind it, or none is.
abbrev pub Reading : ShapeView → Place → List ℕ → List (ℕ × Record) → Stop → Type 0
Reading shape place bytes [] stop = StopsWith shape place bytes stop
Reading shape place bytes ((offset, rec) ∷ records) stop =
    (rest : List ℕ)
    × MayBeNext shape place offset rec
    × (bytes ≡ header_before shape place ++ record_bytes rec ++ rest)
    × Reading shape (place_behind offset rec) rest records stop

-- from a place on these records stand at the front of the bytes, whatever is read behind them
abbrev pub BeginsWith : ShapeView → Place → List ℕ → List (ℕ × Record) → Type 0
BeginsWith shape place bytes [] = ⊤
BeginsWith shape place bytes ((offset, rec) ∷ records) =
    (rest : List ℕ)
    × MayBeNext shape place offset rec
    × (bytes ≡ header_before shape place ++ record_bytes rec ++ rest)
    × BeginsWith shape (place_behind offset rec) rest records

-- a record was read from these bytes, with its offset, and those bytes are left
pub record ReadsOne (shape : ShapeView) (place : Place) (bytes left : List ℕ) (placed : ℕ × Record) : Type 0 where
  pub next : MayBeNext shape place placed.0 placed.1
  pub taken : bytes ≡ header_before shape place ++ record_bytes placed.1 ++ left

-- these records were read, from one place to another
abbrev pub ReadsTo : ShapeView → Place → List ℕ → List (ℕ × Record) → (now : Place) → (left : List ℕ) → Type 0
ReadsTo shape place bytes [] now left = (now ≡ place) × (left ≡ bytes)
ReadsTo shape place bytes ((offset, rec) ∷ records) now left =
    (rest : List ℕ)
    × MayBeNext shape place offset rec
    × (bytes ≡ header_before shape place ++ record_bytes rec ++ rest)
    × ReadsTo shape (place_behind offset rec) rest records now left

-- The text of an event file: a line for each record, with its offset. This project's own. Offsets and the kinds of endings are decimal;
-- addresses and all other words have eight hexadecimal digits.
use Rattle.std.specs.Prelude.{◌≡◌, ℕ, List, [], ◌∷◌, ◌++◌, codes}
use Rattle.std.specs.List.{flat_map}
use Rattle.ae_nums.specs.Decimal.{decimal_text}
use Rattle.ae_nums.specs.Trace.{newline}
use Rattle.ae_print.specs.Spaced.{spaced_word, spaced_words}
use Rattle.ev_format.specs.declared.place.Place.TheVariants.{Start}
use Rattle.ev_format.specs.declared.record.Record.{Record}
use Rattle.ev_format.specs.declared.record.Record.TheVariants.{Fall, Taken, Value, Landing, End}
use Rattle.ev_format.specs.declared.stop.Stop.{Stop}
use Rattle.ev_format.specs.declared.stop.Stop.TheVariants.{Cut, Finished, OtherProgram, BadRecord}
use Rattle.ev_format.specs.Reading.{BeginsWith, Reading}
use Rattle.ev_format.specs.Shapes.{ShapeView}
use Rattle.ev_format.specs.Spelling.{address_in}

abbrev pub record_name : Record → List ℕ
record_name (Fall at) = codes " fall"
record_name (Taken at) = codes " taken"
record_name (Value at value) = codes " value"
record_name (Landing at target values) = codes " landing"
record_name (End at kind detail) = codes " end"

-- an ending's kind, which is decimal, and its detail
abbrev pub end_text : (kind detail : ℕ) → List ℕ
end_text kind detail = codes " " ++ decimal_text kind ++ spaced_word detail

-- what stands behind the address of a record
abbrev pub further_text : Record → List ℕ
further_text (Fall at) = []
further_text (Taken at) = []
further_text (Value at value) = spaced_word value
further_text (Landing at target values) = spaced_words (target ∷ values)
further_text (End at kind detail) = end_text kind detail

-- a record's offset, name and address
abbrev pub record_front : (offset : ℕ) → (name : List ℕ) → (address : ℕ) → List ℕ
record_front offset name address = decimal_text offset ++ name ++ spaced_word address

-- as `24 end 00010090 1 00000000`
abbrev pub record_line : ℕ × Record → List ℕ
record_line (offset, rec) = record_front offset (record_name rec) (address_in rec) ++ further_text rec ++ newline

abbrev pub record_lines : List (ℕ × Record) → List ℕ
record_lines records = flat_map record_line records

-- the last line of a file that is cut
abbrev pub stop_text : Stop → List ℕ
stop_text Cut = codes "cut" ++ newline
stop_text Finished = []
stop_text OtherProgram = []
stop_text (BadRecord offset) = []

-- the text of bytes that are read as these records and then stop
pub record IsEventText (shape : ShapeView) (bytes : List ℕ) (stop : Stop) (text : List ℕ) : Type 0 where
  pub records : List (ℕ × Record)
  pub reads : Reading shape Start bytes records stop
  pub is : text ≡ record_lines records ++ stop_text stop

-- the lines of the first so many records, or the text of all
pub data IsBegunEventText (shape : ShapeView) (bytes : List ℕ) (text : List ℕ) : Type 0 where
  so_far : (records : List (ℕ × Record)) → BeginsWith shape Start bytes records → text ≡ record_lines records → IsBegunEventText shape bytes text
  to_its_stop : (stop : Stop) → IsEventText shape bytes stop text → IsBegunEventText shape bytes text

-- The bytes of a record: this project's own. Its first word is an address, a multiple of 4, plus the number of its kind in the two
-- low bits; further words follow. Words are stored lowest byte first.
use Rattle.std.specs.Prelude.{ℕ, ◌+◌, List, [], ◌∷◌}
use Rattle.std.specs.List.{flat_map}
use Rattle.rv_code.specs.Numbers.{bytes_of}
use Rattle.ev_format.specs.declared.kind.RecordKind.{RecordKind}
use Rattle.ev_format.specs.declared.kind.RecordKind.TheVariants as kinds
use Rattle.ev_format.specs.declared.record.Record.{Record}
use Rattle.ev_format.specs.declared.record.Record.TheVariants.{Fall, Taken, Value, Landing, End}

abbrev pub kind_in : Record → RecordKind
kind_in (Fall at) = kinds.Fall
kind_in (Taken at) = kinds.Taken
kind_in (Value at value) = kinds.Value
kind_in (Landing at target values) = kinds.Landing
kind_in (End at kind detail) = kinds.End

abbrev pub address_in : Record → ℕ
address_in (Fall at) = at
address_in (Taken at) = at
address_in (Value at value) = at
address_in (Landing at target values) = at
address_in (End at kind detail) = at

-- the two low bits of a record's first word
abbrev pub kind_bits : RecordKind → ℕ
kind_bits kinds.Fall = 0
kind_bits kinds.Taken = 1
kind_bits kinds.Value = 2
kind_bits kinds.Landing = 2
kind_bits kinds.End = 3

abbrev pub first_word : Record → ℕ
first_word rec = address_in rec + kind_bits (kind_in rec)

abbrev pub further_words : Record → List ℕ
further_words (Fall at) = []
further_words (Taken at) = []
further_words (Value at value) = value ∷ []
further_words (Landing at target values) = target ∷ values
further_words (End at kind detail) = kind ∷ detail ∷ []

abbrev pub record_words : Record → List ℕ
record_words rec = first_word rec ∷ further_words rec

abbrev pub record_bytes : Record → List ℕ
record_bytes rec = flat_map (bytes_of 4) (record_words rec)

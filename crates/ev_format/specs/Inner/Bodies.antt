-- Records without their first word.
use Rattle.std.specs.Prelude.{◌≡◌, ◌≢◌, ℕ, List, ◌++◌}
use Rattle.std.specs.List.{AllByRecursion, flat_map}
use Rattle.rv_code.specs.Numbers.{IsWord, bytes_of}
use Rattle.ev_format.specs.declared.kind.RecordKind.{RecordKind}
use Rattle.ev_format.specs.declared.record.Record.{Record}
use Rattle.ev_format.specs.declared.record.Record.TheVariants.{End}
use Rattle.ev_format.specs.declared.stop.Stop.{Stop}
use Rattle.ev_format.specs.declared.stop.Stop.TheVariants.{Cut}
use Rattle.ev_format.specs.Shapes.{ShapeView, HasValues}
use Rattle.ev_format.specs.Spelling.{kind_in, address_in, further_words}

abbrev pub further_bytes : Record → List ℕ
further_bytes rec = flat_map (bytes_of 4) (further_words rec)

-- a record of this kind at this address, with as many values as its target needs
pub record IsOf (shape : ShapeView) (kind : RecordKind) (at : ℕ) (rec : Record) : Type 0 where
  pub kind_is : kind_in rec ≡ kind
  pub address_is : address_in rec ≡ at
  pub values : HasValues shape rec
  pub words : AllByRecursion IsWord (further_words rec)

-- no such record is whole behind its first word
abbrev pub BodyStops : ShapeView → RecordKind → ℕ → List ℕ → Stop → Type 0
BodyStops shape kind at bytes stop =
    (stop ≡ Cut) × ((rec : Record) (rest : List ℕ) → IsOf shape kind at rec → bytes ≢ further_bytes rec ++ rest)

abbrev pub IsEnd : ℕ → Record → Type 0
IsEnd at rec = (kind : ℕ) × (detail : ℕ) × (rec ≡ End at kind detail) × IsWord kind × IsWord detail

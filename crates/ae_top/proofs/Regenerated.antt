-- The text of what an event file gives back: what a sink got of it, and what a file has of it.
use Rattle.std.proofs.Common.{◌≡◌, ℕ, List, [], ◌∷◌, ◌++◌, Option, None, Some, Result, Ok, Err, ap, ◌∙◌, subst}
use Rattle.std.specs.Prelude.{IfErr}
use Rattle.std.specs.Io.KnownBytes.{append_known}
use Rattle.ae_ports.specs.Content.{Appends, AppendsFront}
use Rattle.ae_ports.specs.declared.failed.Failed.{Failed}
use Rattle.ae_ports.specs.Files.{Files, HasBytes, IsEmptyFile, SameOthers, file_told}
use Rattle.ae_print.specs.SomeText.{AppendsFrontOfSome, AppendsSome}
use Rattle.ev_format.specs.declared.place.Place.{Place}
use Rattle.ev_format.specs.declared.place.Place.TheVariants.{Start}
use Rattle.ev_format.specs.declared.record.Record.{Record}
use Rattle.ev_format.specs.declared.stop.Stop.{Stop}
use Rattle.ev_format.specs.Reading.{BeginsWith, Reading, place_behind}
use Rattle.ev_format.specs.Shapes.{ShapeView}
use Rattle.regen_walk.specs.declared.replaying.Halted.{Halted}
use Rattle.regen_walk.specs.declared.replaying.Halted.TheVariants.{Read, Astray}
use Rattle.schema_form.specs.LookUps.{schema_shape}
use Rattle.schema_form.specs.SchemaParts.{SchemaParts}
use Rattle.ae_top.specs.Plain.{HasFront}
use Rattle.ae_top.specs.Regenerate.{IsBegunTraceOf, IsTraceOf}

module _ (shape : ShapeView) where
  -- what is read stands at the front of the bytes
  begins_read : (place : Place) (bytes : List ℕ) (records : List (ℕ × Record)) (stop : Stop) → Reading shape place bytes records stop → BeginsWith shape place bytes records
  begins_read place bytes [] stop reads = tt
  begins_read place bytes (first ∷ records) stop reads =
      (reads.0, reads.1, reads.2, begins_read (place_behind first.0 first.1) reads.0 records stop reads.3)

  -- and so do the first of these records
  begins_fewer : (place : Place) (bytes : List ℕ) (records more : List (ℕ × Record)) → BeginsWith shape place bytes (records ++ more) → BeginsWith shape place bytes records
  begins_fewer place bytes [] more begins = tt
  begins_fewer place bytes (first ∷ records) more begins =
      (begins.0, begins.1, begins.2, begins_fewer (place_behind first.0 first.1) begins.0 records more begins.3)

-- all that is given back is given back of some first records
pub begun_of : (parts : SchemaParts) (bytes : List ℕ) (halted : Halted) (text : List ℕ) → IsTraceOf parts bytes halted text → IsBegunTraceOf parts bytes text
begun_of parts bytes (Read stop) text is =
    record {
      records = is.are.records;
      begins = begins_read (schema_shape parts) Start bytes is.are.records stop is.are.reading;
      items = is.items;
      are = is.are.items_of;
      is = is.is;
    }
begun_of parts bytes (Astray offset) text is =
    record {
      records = is.are.records;
      begins = begins_fewer (schema_shape parts) Start bytes is.are.records ((offset, is.are.rec) ∷ []) is.are.begins;
      items = is.items;
      are = is.are.items_of;
      is = is.is;
    }

-- what was added to an empty file is what it has
pub filled : (before now : Option Files) (name text : List ℕ) → IsEmptyFile before name → SameOthers before now name
    → Appends (file_told before name) (file_told now name) text → HasBytes now name text
filled None None name text empty others adds = tt
filled None (Some now) name text empty others adds = absurd others
filled (Some before) None name text empty others adds = absurd others
filled (Some before) (Some now) name text empty others adds = adds ∙ ap (λ (known : Option (List ℕ)). append_known known text) empty

pub fronted : (before now : Option Files) (name text : List ℕ) → IsEmptyFile before name → SameOthers before now name
    → AppendsFront (file_told before name) (file_told now name) text → HasFront now name text
fronted before now name text empty others adds = (adds.0, adds.1, filled before now name _ empty others adds.2)

-- what a sink got, said of the sink that is given back
pub all_at : (is_text : List ℕ → Type 0) (before now end : Option (List ℕ)) → now ≡ end → AppendsSome is_text before now → AppendsSome is_text before end
all_at is_text before now end is all = subst (AppendsSome is_text before) is all

pub front_at : {T : Type 0} (result : Result T Failed) (is_text : List ℕ → Type 0) (before now end : Option (List ℕ)) → now ≡ end
    → AppendsFrontOfSome is_text before now → IfErr result (λ _. AppendsFrontOfSome is_text before end)
front_at (Ok value) is_text before now end is front = tt
front_at (Err fault) is_text before now end is front = subst (AppendsFrontOfSome is_text before) is front

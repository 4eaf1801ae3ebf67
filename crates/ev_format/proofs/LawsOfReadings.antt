-- Laws of readings that grow record by record. They have no code, and proofs of every crate may cite them.
use Rattle.std.proofs.Common.{◌≡◌, ℕ, List, [], ◌∷◌, ◌++◌, Result, Ok, refl, sym, subst}
use Rattle.std.specs.Prelude.{IfOk}
use Rattle.ev_format.specs.declared.halt.Halt.{Halt}
use Rattle.ev_format.specs.declared.place.Place.{Place}
use Rattle.ev_format.specs.declared.record.Record.{Record}
use Rattle.ev_format.specs.declared.stop.Stop.{Stop}
use Rattle.ev_format.specs.Reading.{BeginsWith, Reading, ReadsOne, ReadsTo, StopsWith, place_behind}
use Rattle.ev_format.specs.Shapes.{ShapeView}
-- there is one reading, and each list of records at the front of the bytes begins it
pub use Rattle.ev_format.proofs.Unique.{one_reading, one_front, front_of_reading}

-- what holds of the place where a reader stands
pub at_place : (records : Result Place Halt) (place : Place) (P : Place → Type 0) → records ≡ Ok place → IfOk records P → P place
at_place records place P is holds = subst (λ (known : Result Place Halt). IfOk known P) is holds

module _ (shape : ShapeView) where
  -- one record more
  pub reads_one_more : (place : Place) (bytes : List ℕ) (records : List (ℕ × Record)) (mid : Place) (left rest : List ℕ) (placed : ℕ × Record) → ReadsTo shape place bytes records mid left
      → ReadsOne shape mid left rest placed → ReadsTo shape place bytes (records ++ placed ∷ []) (place_behind placed.0 placed.1) rest
  reads_one_more place bytes [] mid left rest placed reads one =
      subst (λ (at : Place). ReadsOne shape at left rest placed → ReadsTo shape place bytes (placed ∷ []) (place_behind placed.0 placed.1) rest) (sym reads.0)
      (subst (λ (all : List ℕ). ReadsOne shape place all rest placed → ReadsTo shape place bytes (placed ∷ []) (place_behind placed.0 placed.1) rest) (sym reads.1)
      (λ here. (rest, here.next, here.taken, (refl, refl))))
      one
  reads_one_more place bytes (first ∷ records) mid left rest placed reads one =
      (reads.0, reads.1, reads.2, reads_one_more (place_behind first.0 first.1) reads.0 records mid left rest placed reads.3 one)

  -- reading stops behind these
  pub reads_all : (place : Place) (bytes : List ℕ) (records : List (ℕ × Record)) (mid : Place) (left : List ℕ) (stop : Stop) → ReadsTo shape place bytes records mid left
      → StopsWith shape mid left stop → Reading shape place bytes records stop
  reads_all place bytes [] mid left stop reads stops =
      subst (λ (at : Place). StopsWith shape at bytes stop) reads.0 (subst (λ (all : List ℕ). StopsWith shape mid all stop) reads.1 stops)
  reads_all place bytes (first ∷ records) mid left stop reads stops =
      (reads.0, reads.1, reads.2, reads_all (place_behind first.0 first.1) reads.0 records mid left stop reads.3 stops)

  -- they stand at the front of the bytes
  pub begins : (place : Place) (bytes : List ℕ) (records : List (ℕ × Record)) (mid : Place) (left : List ℕ) → ReadsTo shape place bytes records mid left → BeginsWith shape place bytes records
  begins place bytes [] mid left reads = tt
  begins place bytes (first ∷ records) mid left reads = (reads.0, reads.1, reads.2, begins (place_behind first.0 first.1) reads.0 records mid left reads.3)

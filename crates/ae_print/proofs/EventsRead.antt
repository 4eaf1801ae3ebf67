-- The records of an event file, one behind another.
use Rattle.std.proofs.Common.{◌≡◌, ℕ, List, [], ◌∷◌, ◌++◌, Result, Ok, Err, refl, sym, ap, ◌∙◌, append-nil, append_assoc}
use Rattle.std.specs.Prelude.{IfErr}
use Rattle.ev_format.specs.declared.place.Place.{Place}
use Rattle.ev_format.specs.declared.place.Place.TheVariants.{Start}
use Rattle.ev_format.specs.declared.record.Record.{Record}
use Rattle.ev_format.specs.declared.stop.Stop.{Stop}
use Rattle.ev_format.specs.Reading.{ReadsOne, StopsWith, place_behind}
use Rattle.ev_format.specs.Shapes.{ShapeView}
use Rattle.ev_format.proofs.LawsOfReadings.{begins, reads_all, reads_one_more}
use Rattle.ae_print.specs.EventText.{IsBegunEventText, so_far, IsEventText, record_line, record_lines, stop_text}
use Rattle.ae_print.specs.Inner.EventsRead.{IsReadTo}

record_lines-one : (records : List (ℕ × Record)) (placed : ℕ × Record) → record_lines (records ++ placed ∷ []) ≡ record_lines records ++ record_line placed
record_lines-one [] placed = append-nil (record_line placed)
record_lines-one (first ∷ records) placed = ap (λ (rest : List ℕ). record_line first ++ rest) (record_lines-one records placed) ∙ sym (append_assoc (record_line first) (record_lines records) (record_line placed))

module _ (shape : ShapeView) where
  -- before the first record
  pub none_read : (bytes : List ℕ) → IsReadTo shape bytes Start bytes []
  none_read bytes = record { records = []; reads = (refl, refl); is = refl }

  -- one record more, and its line
  pub one_read : (bytes : List ℕ) (mid : Place) (left rest text line : List ℕ) (placed : ℕ × Record) → IsReadTo shape bytes mid left text → ReadsOne shape mid left rest placed → line ≡ record_line placed
      → IsReadTo shape bytes (place_behind placed.0 placed.1) rest (text ++ line)
  one_read bytes mid left rest text line placed read one is = record {
    records = read.records ++ placed ∷ [];
    reads = reads_one_more shape Start bytes read.records mid left rest placed read.reads one;
    is = ap (λ (front : List ℕ). front ++ line) read.is ∙ (ap (λ (behind : List ℕ). record_lines read.records ++ behind) is ∙ sym (record_lines-one read.records placed));
  }

  -- reading stops, and the last line
  pub all_read : (bytes : List ℕ) (mid : Place) (left text line : List ℕ) (stop : Stop) → IsReadTo shape bytes mid left text → StopsWith shape mid left stop → line ≡ stop_text stop
      → IsEventText shape bytes stop (text ++ line)
  all_read bytes mid left text line stop read stops is = record {
    records = read.records;
    reads = reads_all shape Start bytes read.records mid left stop read.reads stops;
    is = ap (λ (front : List ℕ). front ++ line) read.is ∙ ap (λ (behind : List ℕ). record_lines read.records ++ behind) is;
  }

  -- the lines so far
  pub begun : (bytes : List ℕ) (mid : Place) (left text : List ℕ) → IsReadTo shape bytes mid left text → IsBegunEventText shape bytes text
  begun bytes mid left text read = so_far read.records (begins shape Start bytes read.records mid left read.reads) read.is

-- what holds anyway holds after an error
pub after_error : {T E : Type 0} (P : Type 0) (result : Result T E) → P → IfErr result (λ _. P)
after_error P (Ok value) holds = tt
after_error P (Err fault) holds = holds

-- How far the records of an event file were read.
use Rattle.std.specs.Prelude.{◌≡◌, ℕ, List}
use Rattle.ev_format.specs.declared.place.Place.{Place}
use Rattle.ev_format.specs.declared.place.Place.TheVariants.{Start}
use Rattle.ev_format.specs.declared.record.Record.{Record}
use Rattle.ev_format.specs.Reading.{ReadsTo}
use Rattle.ev_format.specs.Shapes.{ShapeView}
use Rattle.ae_print.specs.EventText.{record_lines}

-- the lines of the records up to here
pub record IsReadTo (shape : ShapeView) (bytes : List ℕ) (place_now : Place) (bytes_now : List ℕ) (text : List ℕ) : Type 0 where
  pub records : List (ℕ × Record)
  pub reads : ReadsTo shape Start bytes records place_now bytes_now
  pub is : text ≡ record_lines records

-- What the events of runs give to those who read event files.
use Rattle.std.specs.Prelude.{ℕ, Bool, List, IsSome}
use Rattle.std.specs.List.{AllByRecursion}
use Rattle.rv_code.specs.declared.image.Image.{Image}
use Rattle.rv_code.specs.Numbers.{IsByte}
use Rattle.rv_machine.specs.Run.{run_of}
use Rattle.flow_graph.specs.CodeParts.{code_parts}
use Rattle.ev_format.specs.declared.place.Place.TheVariants.{Start}
use Rattle.ev_format.specs.declared.stop.Stop.TheVariants.{Finished}
use Rattle.ev_format.specs.Laws.{EndsOnce, with_offsets}
use Rattle.ev_format.specs.Reading.{Reading}
use Rattle.ev_format.specs.Shapes.{ShapeView, HasRecord}
use Rattle.schema_form.specs.CodeShape.{IsShapeOf}
use Rattle.schema_form.specs.RunEvents.{events_of, event_file_of}

-- The events of a run are records that a file of the shape may have. Where the run has ended, the last of them and no other is an End, and
-- its event file is read back as its events.
pub record AreReadBack (shape : ShapeView) (image : Image) (input : List ℕ) (count : ℕ) : Type 0 where
  pub records : AllByRecursion (HasRecord shape) (events_of shape image input count)
  pub once : IsSome (run_of image input count).ending → EndsOnce (events_of shape image input count)
  pub file :
      IsSome (run_of image input count).ending
      → Reading shape Start (event_file_of shape image input count) (with_offsets 16 (events_of shape image input count)) Finished

-- so it is with each run of the image, under any marks
abbrev pub EventFilesAreReadBack : Image → Type 0
EventFilesAreReadBack image =
    (marks : List Bool) (shape : ShapeView) (input : List ℕ) (count : ℕ) → IsShapeOf (code_parts image) marks shape → AllByRecursion IsByte input
    → AreReadBack shape image input count

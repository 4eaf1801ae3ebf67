-- A run: steps from a state on until one ends, at most so many. This project's own.
use Rattle.std.specs.Prelude.{ℕ, zero, suc, List, [], ◌++◌, Option, None, Some}
use Rattle.ae_nums.specs.declared.item.Item.{Item}
use Rattle.rv_code.specs.declared.ending.Ending.{Ending}
use Rattle.rv_code.specs.declared.image.Image.{Image}
use Rattle.rv_machine.specs.State.{State}
use Rattle.rv_machine.specs.Step.{Program, program_of, StepOutcome, Went, EndedWith, step_of}
use Rattle.rv_machine.specs.Start.{start_of}

pub record Run : Type 0 where
  -- the last state; an ending leaves the state as it was
  pub last : State
  pub ending : Option Ending
  -- the steps made, the one that ended among them
  pub steps : ℕ

abbrev pub not_begun : State → Run
not_begun s = record { last = s; ending = None; steps = 0 }

-- a run that goes on as `rest` says where its first step went on
abbrev pub first_step : State → StepOutcome → (rest : State → Run) → Run
first_step s (Went next items) rest =
    let r : Run = rest next in
    record { last = r.last; ending = r.ending; steps = suc r.steps }
first_step s (EndedWith ending items) rest = record { last = s; ending = Some ending; steps = 1 }

-- at most so many steps from a state on
unfoldable pub run : Program → ℕ → State → Run
run program zero s = not_begun s
run program (suc count) s = first_step s (step_of program s) (λ next. run program count next)

-- the items of a first step and of the rest
abbrev pub items_with : StepOutcome → (rest : State → List Item) → List Item
items_with (Went next items) rest = items ++ rest next
items_with (EndedWith ending items) rest = items

-- the items of those steps, in order
unfoldable pub items_from : Program → ℕ → State → List Item
items_from program zero s = []
items_from program (suc count) s = items_with (step_of program s) (λ next. items_from program count next)

-- the run of an image on an input, at most so many steps
abbrev pub run_of : Image → List ℕ → ℕ → Run
run_of image input count = run (program_of image) count (start_of image input)

abbrev pub items_of : Image → List ℕ → ℕ → List Item
items_of image input count = items_from (program_of image) count (start_of image input)

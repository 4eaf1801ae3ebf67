-- The commands that are carried out today: `run PROG` and `plain PROG TRACE`, each with the option of its fuel, and
-- `print elf FILE`, `print code FILE`, `print graph FILE`, `print needs FILE`, `print slice FILE`, `print schema FILE`,
-- `print events SCHEMA EVENTS` and `regenerate SCHEMA EVENTS TRACE`. All other words are answered as if they spelled no command.
use Rattle.std.specs.Prelude.{ℕ, List, Option, None, Some}
use Rattle.std.specs.Option.{option_and_then}
use Rattle.ae_words.specs.declared.command.Command.{Command}
use Rattle.ae_words.specs.declared.command.Command.TheVariants.{Run, Plain, Rewrite, Regenerate, Profile, PrintElf, PrintCode, PrintGraph, PrintNeeds, PrintSlice, PrintSchema, PrintEvents, Sample, Help}
use Rattle.ae_words.specs.Command.{command_of}
use Rattle.ae_top.specs.declared.task.PrintKind.TheVariants.{Elf, Code, Graph, Needs, Slice}
use Rattle.ae_top.specs.declared.task.Task.{Task}
use Rattle.ae_top.specs.declared.task.TheConstants.{DEFAULT_FUEL}

-- the steps that a run may take
abbrev pub fuel_of : Option ℕ → ℕ
fuel_of None = DEFAULT_FUEL
fuel_of (Some fuel) = fuel

-- what a command asks for, with the places of its file words among all words
abbrev pub task_of : Command → Option Task
task_of (Run prog None fuel None) = Some (Task.Run prog (fuel_of fuel))
task_of (Run prog None fuel (Some dump)) = None
task_of (Run prog (Some events) fuel dump) = None
task_of (Plain prog trace fuel) = Some (Task.Plain prog trace (fuel_of fuel))
task_of (Rewrite prog new schema) = None
task_of (Regenerate schema events trace) = Some (Task.Regenerate schema events trace)
task_of (Profile schema events) = None
task_of (PrintElf file) = Some (Task.Print Elf file)
task_of (PrintCode file) = Some (Task.Print Code file)
task_of (PrintGraph file) = Some (Task.Print Graph file)
task_of (PrintNeeds file) = Some (Task.Print Needs file)
task_of (PrintSlice file) = Some (Task.Print Slice file)
task_of (PrintSchema file) = Some (Task.PrintSchema file)
task_of (PrintEvents schema events) = Some (Task.PrintEvents schema events)
task_of (Sample number new schema events) = None
task_of Help = None

-- what the words ask for, none where they spell no command that is carried out
abbrev pub task_in : List (List ℕ) → Option Task
task_in words = option_and_then task_of (command_of words)

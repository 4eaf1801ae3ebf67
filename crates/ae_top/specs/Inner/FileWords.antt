-- Where the words stand that name a task's files.
use Rattle.std.specs.Prelude.{ℕ, ◌<◌}
use Rattle.ae_top.specs.declared.task.Task.{Task}
use Rattle.ae_top.specs.declared.task.Task.TheVariants.{Run, Plain, Print, PrintSchema, PrintEvents, Regenerate}

-- each of them is one of so many words
abbrev pub NamesAmong : (count : ℕ) → Task → Type 0
NamesAmong count (Run prog fuel) = prog < count
NamesAmong count (Plain prog trace fuel) = (prog < count) × (trace < count)
NamesAmong count (Print kind file) = file < count
NamesAmong count (PrintSchema file) = file < count
NamesAmong count (PrintEvents schema events) = (schema < count) × (events < count)
NamesAmong count (Regenerate schema events trace) = (schema < count) × (events < count) × (trace < count)

-- Pieces of a given size, read from a source.
use Rattle.std.specs.Prelude.{◌≡◌, ℕ, ◌<◌, ◌≤◌, List, length, Result, OnOk, IfErr}
use Rattle.ev_format.specs.declared.halt.Halt.{Halt}
use Rattle.ev_format.specs.declared.stop.Stop.{Stop}
use Rattle.ev_format.specs.declared.stop.Stop.TheVariants.{Cut}
use Rattle.ev_format.specs.Answers.{HaltRises}

-- a piece of so many bytes is cut where fewer are left
abbrev pub FallsShort : ℕ → List ℕ → Stop → Type 0
FallsShort count bytes stop = (stop ≡ Cut) × (length bytes < count)

-- the count of a source's faults before a call and after it, beside what the call answered
pub record HasRisenBy {T : Type 0} (before now : ℕ) (result : Result T Halt) : Type 0 where
  pub later : before ≤ now
  pub same : OnOk result (now ≡ before)
  pub risen : IfErr result (HaltRises before now)

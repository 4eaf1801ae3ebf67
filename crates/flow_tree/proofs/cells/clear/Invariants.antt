use Rattle.std.proofs.Common.{◌≡◌, ℕ, ◌<◌, Some}
use Rattle.std.specs.Prelude.{slice_get}
use Rattle.flow_tree.proofs.cells.clear.Given as goal

abbrev pub invariant-loop-cell : goal.invariant-loop-cell
invariant-loop-cell l = (block : ℕ) → block < l.cell-index → slice_get l.cells block ≡ Some (record { count = 0; sum = 0 })

use Rattle.std.proofs.Common.{◌≤◌, length}
use Rattle.regen_path.specs.Inner.Heights.{LastsFrom}
use Rattle.regen_path.proofs.lasts.lasts_of.Given as goal

abbrev pub invariant-loop-number : goal.invariant-loop-number
invariant-loop-number l = record {
  within : l.number ≤ length l.visits;
  from : LastsFrom l.visits l.number l.lasts.items;
}

abbrev pub decreases-loop-number : goal.decreases-loop-number
decreases-loop-number l = l.number

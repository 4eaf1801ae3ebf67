use Rattle.need_sets.proofs.Settled.{SettledSoFar, work_left}
use Rattle.need_sets.proofs.search.Search.settle.Given as goal

abbrev pub invariant-loop-goal : goal.invariant-loop-goal
invariant-loop-goal l = SettledSoFar l.ranges l.initial.self l.self

abbrev pub decreases-loop-goal : goal.decreases-loop-goal
decreases-loop-goal l = work_left l.self

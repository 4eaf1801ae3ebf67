use Rattle.need_sets.proofs.Chain.{PassedDownTo, left_of}
use Rattle.need_sets.proofs.search.Search.pass_by.Given as goal

abbrev pub invariant-loop-next : goal.invariant-loop-next
invariant-loop-next l = PassedDownTo l.ranges l.taken l.goal l.behind l.next l.initial.self l.self

abbrev pub decreases-loop-next : goal.decreases-loop-next
decreases-loop-next l = left_of l.next

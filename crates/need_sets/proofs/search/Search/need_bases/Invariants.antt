use Rattle.need_sets.proofs.Based.{BasedSoFar}
use Rattle.need_sets.proofs.search.Search.need_bases.Given as goal

abbrev pub invariant-loop-place : goal.invariant-loop-place
invariant-loop-place l = BasedSoFar l.ranges l.place l.initial.self l.self

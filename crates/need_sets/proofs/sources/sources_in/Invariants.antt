use Rattle.need_sets.specs.Inner.Sources.{AreSources}
use Rattle.need_sets.proofs.sources.sources_in.Given as goal

abbrev pub invariant-loop-place : goal.invariant-loop-place
invariant-loop-place l = AreSources l.ranges l.taken l.place l.last.items l.before.items

use Rattle.regen_path.specs.Inner.Sources.{IsFoundBy}
use Rattle.regen_path.proofs.sources.sources_of.Given as goal

abbrev pub invariant-loop-node : goal.invariant-loop-node
invariant-loop-node l = IsFoundBy l.ways l.kind l.node l.last.items l.before.items

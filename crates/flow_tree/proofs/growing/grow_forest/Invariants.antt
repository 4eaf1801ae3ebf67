use Rattle.std.proofs.Common.{◌≡◌, ℕ, ◌<◌, []}
use Rattle.flow_tree.specs.Inner.Growing.{IsGrown, HasGrown}
use Rattle.flow_tree.proofs.growing.grow_forest.Given as goal

abbrev pub invariant-loop-root : goal.invariant-loop-root
invariant-loop-root l = record {
  whole : HasGrown l.edges l.weights l.grown l.witness;
  waiting : l.waiting ≡ [];
  all : (block : ℕ) → block < l.root → IsGrown l.grown block;
}

use Rattle.std.proofs.Common.{ℕ, ◌<◌}
use Rattle.regen_path.specs.Inner.Growing.{AreWhole, IsNumbered}
use Rattle.regen_path.proofs.growing.Growth.grow_all.Given as goal

abbrev pub invariant-loop-node : goal.invariant-loop-node
invariant-loop-node l = record {
  whole : AreWhole l.ground.ways.items l.self;
  each : (node : ℕ) → node < l.node → (number : ℕ) × IsNumbered l.self.numbers.items node number;
}

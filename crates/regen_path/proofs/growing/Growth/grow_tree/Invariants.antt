use Rattle.std.proofs.Common.{ℕ}
use Rattle.regen_path.specs.Inner.Growing.{AreGrowing, IsNumbered, KeepsNumbers, work_left}
use Rattle.regen_path.proofs.growing.Growth.grow_tree.Given as goal

abbrev pub invariant-loop-visit : goal.invariant-loop-visit
invariant-loop-visit l = record {
  growing : (first : ℕ) × AreGrowing l.ground.ways.items l.self.visits.items l.self.numbers.items l.self.waiting.items first;
  root : (number : ℕ) × IsNumbered l.self.numbers.items l.root number;
  kept : KeepsNumbers l.fn.self l.self;
}

abbrev pub decreases-loop-visit : goal.decreases-loop-visit
decreases-loop-visit l = work_left l.ground.ways.items l.self

use Rattle.std.proofs.Common.{◌-◌, ◌<◌, ◌≤◌, ℕ, length}
use Rattle.rv_memory.specs.Inner.Places.{stretch_at}
use Rattle.rv_memory.proofs.place.place_of.Given as goal

abbrev pub invariant-loop-low : goal.invariant-loop-low
invariant-loop-low l = record {
  order : l.low ≤ l.high;
  within : l.high ≤ length l.stretches;
  before : (place : ℕ) → place < l.low → (stretch_at l.stretches place).start ≤ l.address;
  behind : (place : ℕ) → l.high ≤ place → place < length l.stretches → l.address < (stretch_at l.stretches place).start;
}

abbrev pub decreases-loop-low : goal.decreases-loop-low
decreases-loop-low l = l.high - l.low

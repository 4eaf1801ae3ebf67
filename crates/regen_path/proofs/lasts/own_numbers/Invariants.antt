use Rattle.std.proofs.Common.{◌≡◌, ℕ, ◌<◌, length, get_or}
use Rattle.regen_path.proofs.lasts.own_numbers.Given as goal

abbrev pub invariant-loop-number : goal.invariant-loop-number
invariant-loop-number l = record {
  long : length l.numbers.items ≡ l.number;
  own : (at : ℕ) → at < l.number → get_or l.numbers.items at 0 ≡ at;
}

use Rattle.std.proofs.Common.{◌≡◌, ◌≤◌, ◌*◌, ◌-◌, length, take}
use Rattle.std.specs.List.{AllByRecursion, flat_map}
use Rattle.rv_code.specs.Numbers.{IsWord, bytes_of}
use Rattle.ev_format.proofs.body.words_in.Given as goal

abbrev pub invariant-loop-at : goal.invariant-loop-at
invariant-loop-at l = record {
  within : l.at ≤ length l.bytes;
  count : 4 * length l.values ≡ l.at;
  bytes : flat_map (bytes_of 4) l.values ≡ take l.at l.bytes;
  words : AllByRecursion IsWord l.values;
}

abbrev pub decreases-loop-at : goal.decreases-loop-at
decreases-loop-at l = length l.bytes - l.at

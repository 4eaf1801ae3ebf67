use Rattle.std.proofs.Common.{◌≡◌, ◌+◌, ◌*◌, ◌++◌, length, take}
use Rattle.std.specs.List.{flat_map}
use Rattle.rv_code.specs.Numbers.{bytes_of}
use Rattle.ev_format.proofs.put.push_words.Given as goal

abbrev pub invariant-loop-word : goal.invariant-loop-word
invariant-loop-word l = record {
  bytes : l.piece ≡ l.fn.piece ++ flat_map (bytes_of 4) (take l.word-index l.words);
  room : length l.piece ≡ length l.fn.piece + 4 * l.word-index;
}

use Rattle.std.proofs.Common.{◌≡◌, take}
use Rattle.std.specs.List.{flat_map}
use Rattle.rv_code.specs.Numbers.{bytes_of}
use Rattle.mixed_code.proofs.parts.bytes.Given as goal

abbrev pub invariant-loop-word : goal.invariant-loop-word
invariant-loop-word l = l.bytes.items ≡ flat_map (bytes_of 4) (take l.word-index l.words)

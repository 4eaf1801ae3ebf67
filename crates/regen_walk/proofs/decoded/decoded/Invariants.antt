use Rattle.std.proofs.Common.{take}
use Rattle.regen_walk.specs.Decoded.{AreDecoded}
use Rattle.regen_walk.proofs.decoded.decoded.Given as goal

abbrev pub invariant-loop-word : goal.invariant-loop-word
invariant-loop-word l = AreDecoded (take l.word-index l.words) l.instrs.items

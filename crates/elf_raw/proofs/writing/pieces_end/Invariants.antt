use Rattle.std.proofs.Common.{◌≡◌, take}
use Rattle.std.specs.List.{fold}
use Rattle.elf_raw.specs.Written.{last_end}
use Rattle.elf_raw.proofs.writing.pieces_end.Given as goal

abbrev pub invariant-loop-piece : goal.invariant-loop-piece
invariant-loop-piece l = l.end ≡ fold last_end l.before (take l.piece-index l.pieces)

use Rattle.std.proofs.Common.{◌≡◌, take}
use Rattle.std.specs.List.{fold}
use Rattle.elf_raw.specs.Written.{lay}
use Rattle.elf_raw.proofs.writing.put_pieces.Given as goal

abbrev pub invariant-loop-piece : goal.invariant-loop-piece
invariant-loop-piece l = l.file ≡ fold lay l.initial.file (take l.piece-index l.pieces)

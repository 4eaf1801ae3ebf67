use Rattle.std.proofs.Common.{◌≡◌, map}
use Rattle.std.specs.List.{range_with_len}
use Rattle.elf_image.specs.NoteBytes.{mark_of}
use Rattle.elf_image.proofs.note.read_note.Given as goal

abbrev pub invariant-loop-number : goal.invariant-loop-number
invariant-loop-number l = l.marks.items ≡ map (mark_of l.piece) (range_with_len 0 l.number)

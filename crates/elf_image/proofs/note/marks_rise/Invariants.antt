use Rattle.std.proofs.Common.{◌≡◌, ◌-◌}
use Rattle.std.specs.List.{list_all, range_with_len}
use Rattle.elf_image.specs.NoteBytes.{mark_count, rises_at, marks_rise}
use Rattle.elf_image.proofs.note.marks_rise.Given as goal

-- what is left to try decides
abbrev pub invariant-loop-number : goal.invariant-loop-number
invariant-loop-number l =
    marks_rise l.piece ≡ list_all (rises_at l.piece) (range_with_len l.number (mark_count l.piece - 1 - l.number))

use Rattle.std.proofs.Common.{◌≡◌, ◌-◌}
use Rattle.std.specs.List.{list_all, range_with_len}
use Rattle.elf_image.specs.NoteBytes.{mark_count, is_aligned_at, originals_are_aligned}
use Rattle.elf_image.proofs.note.originals_are_aligned.Given as goal

-- what is left to try decides
abbrev pub invariant-loop-number : goal.invariant-loop-number
invariant-loop-number l =
    originals_are_aligned l.piece ≡ list_all (is_aligned_at l.piece) (range_with_len l.number (mark_count l.piece - l.number))

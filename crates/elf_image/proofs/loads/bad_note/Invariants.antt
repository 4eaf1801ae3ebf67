use Rattle.std.proofs.Common.{◌≡◌, ◌-◌}
use Rattle.std.specs.List.{find, range_with_len}
use Rattle.elf_raw.specs.Header.{header_of}
use Rattle.elf_image.specs.Loads.{bad_note_at, bad_note}
use Rattle.elf_image.proofs.loads.bad_note.Given as goal

-- what is left to look at
abbrev pub invariant-loop-number : goal.invariant-loop-number
invariant-loop-number l = bad_note l.bytes ≡ find (bad_note_at l.bytes) (range_with_len l.number ((header_of l.bytes).phnum - l.number))

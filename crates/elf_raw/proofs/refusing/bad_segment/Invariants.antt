use Rattle.std.proofs.Common.{◌≡◌, ◌-◌}
use Rattle.std.specs.List.{find, range_with_len}
use Rattle.elf_raw.specs.Refusal.{segment_offends}
use Rattle.elf_raw.proofs.refusing.bad_segment.Given as goal

abbrev pub invariant-loop-number : goal.invariant-loop-number
invariant-loop-number l =
    find (segment_offends l.bytes) (range_with_len 0 l.header.phnum) ≡ find (segment_offends l.bytes) (range_with_len l.number (l.header.phnum - l.number))

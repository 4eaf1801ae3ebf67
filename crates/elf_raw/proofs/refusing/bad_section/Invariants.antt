use Rattle.std.proofs.Common.{◌≡◌, ◌-◌}
use Rattle.std.specs.List.{find, range_with_len}
use Rattle.elf_raw.specs.Refusal.{section_offends}
use Rattle.elf_raw.proofs.refusing.bad_section.Given as goal

abbrev pub invariant-loop-number : goal.invariant-loop-number
invariant-loop-number l =
    find (section_offends l.bytes) (range_with_len 0 l.header.shnum) ≡ find (section_offends l.bytes) (range_with_len l.number (l.header.shnum - l.number))

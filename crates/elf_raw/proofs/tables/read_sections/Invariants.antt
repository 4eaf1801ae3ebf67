use Rattle.std.proofs.Common.{◌≡◌, map}
use Rattle.std.specs.List.{range_with_len}
use Rattle.elf_raw.specs.Sections.{section_of}
use Rattle.elf_raw.proofs.tables.read_sections.Given as goal

abbrev pub invariant-loop-number : goal.invariant-loop-number
invariant-loop-number l = l.sections.items ≡ map (section_of l.bytes) (range_with_len 0 l.number)

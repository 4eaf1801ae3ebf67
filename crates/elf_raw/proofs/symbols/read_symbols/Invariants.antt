use Rattle.std.proofs.Common.{◌≡◌}
use Rattle.std.specs.List.{flat_map, range_with_len}
use Rattle.elf_raw.specs.Sections.{section_of}
use Rattle.elf_raw.specs.Symbols.{symbols_of_section}
use Rattle.elf_raw.proofs.symbols.read_symbols.Given as goal

abbrev pub invariant-loop-number : goal.invariant-loop-number
invariant-loop-number l = l.symbols.items ≡ flat_map (symbols_of_section l.bytes (section_of l.bytes)) (range_with_len 0 l.number)

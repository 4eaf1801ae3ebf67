use Rattle.std.proofs.Common.{◌≡◌, ◌++◌, map}
use Rattle.std.specs.List.{range_with_len}
use Rattle.elf_raw.specs.Sections.{section_of}
use Rattle.elf_raw.specs.Symbols.{symbol_of}
use Rattle.elf_raw.proofs.symbols.add_symbols.Given as goal

abbrev pub invariant-loop-place : goal.invariant-loop-place
invariant-loop-place l =
    l.symbols.items ≡ l.initial.symbols.items ++ map (symbol_of l.bytes (section_of l.bytes) l.number l.section) (range_with_len 0 l.place)

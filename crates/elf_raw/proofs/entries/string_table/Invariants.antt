use Rattle.std.proofs.Common.{◌≡◌, take}
use Rattle.elf_raw.specs.Entries.{string_table}
use Rattle.elf_raw.proofs.entries.string_table.Given as goal

abbrev pub invariant-loop-symbol : goal.invariant-loop-symbol
invariant-loop-symbol l = l.table.items ≡ string_table (take l.symbol-index l.symbols)

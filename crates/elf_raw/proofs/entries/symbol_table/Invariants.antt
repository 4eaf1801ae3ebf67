use Rattle.std.proofs.Common.{◌≡◌, take}
use Rattle.std.specs.List.{All}
use Rattle.elf_raw.specs.Entries.{symbol_table}
use Rattle.elf_raw.specs.Inner.Fits.{SymbolFits}
use Rattle.elf_raw.proofs.entries.symbol_table.Given as goal

abbrev pub invariant-loop-symbol : goal.invariant-loop-symbol
invariant-loop-symbol l =
    record {
      bytes : l.table.items ≡ symbol_table (take l.symbol-index l.symbols);
      fits : All SymbolFits (take l.symbol-index l.symbols);
    }

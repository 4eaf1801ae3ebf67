use Rattle.std.proofs.Common.{◌≡◌, take}
use Rattle.std.specs.List.{All}
use Rattle.elf_raw.specs.Entries.{relocation_table}
use Rattle.elf_raw.specs.Inner.Fits.{RelocationFits}
use Rattle.elf_raw.proofs.entries.relocation_table.Given as goal

abbrev pub invariant-loop-relocation : goal.invariant-loop-relocation
invariant-loop-relocation l =
    record {
      bytes : l.table.items ≡ relocation_table (take l.relocation-index l.relocations);
      fits : All RelocationFits (take l.relocation-index l.relocations);
    }

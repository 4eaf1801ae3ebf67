use Rattle.std.proofs.Common.{◌≡◌, ◌++◌, map}
use Rattle.std.specs.List.{range_with_len}
use Rattle.elf_raw.specs.Relocations.{relocation_of}
use Rattle.elf_raw.proofs.tables.add_relocations.Given as goal

abbrev pub invariant-loop-place : goal.invariant-loop-place
invariant-loop-place l = l.relocations.items ≡ l.fn.relocations.items ++ map (relocation_of l.bytes l.number l.section) (range_with_len 0 l.place)

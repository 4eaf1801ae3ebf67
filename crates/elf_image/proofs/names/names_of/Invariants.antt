use Rattle.std.proofs.Common.{◌≡◌, map, take}
use Rattle.std.specs.List.{filter}
use Rattle.rv_code.specs.Code.{is_code}
use Rattle.elf_image.specs.CodeWords.{is_function_at, name_of}
use Rattle.elf_image.proofs.names.names_of.Given as goal

abbrev pub invariant-loop-symbol : goal.invariant-loop-symbol
invariant-loop-symbol l = l.names.items ≡ map name_of (filter (is_function_at (is_code l.extents)) (take l.symbol-index l.symbols))

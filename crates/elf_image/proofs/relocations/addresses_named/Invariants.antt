use Rattle.std.proofs.Common.{◌≡◌, map, take}
use Rattle.std.specs.List.{filter}
use Rattle.elf_image.specs.CodeWords.{is_code_word}
use Rattle.elf_image.specs.Named.{is_naming, address_named}
use Rattle.elf_image.proofs.relocations.addresses_named.Given as goal

abbrev pub invariant-loop-relocation : goal.invariant-loop-relocation
invariant-loop-relocation l =
    l.named.items ≡ filter (is_code_word l.bytes) (map (address_named l.bytes) (filter is_naming (take l.relocation-index l.raw.relocations)))

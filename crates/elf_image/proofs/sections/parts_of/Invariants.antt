use Rattle.std.proofs.Common.{◌≡◌, ◌≤◌, length, take}
use Rattle.std.specs.List.{All, filter, flat_map}
use Rattle.rv_code.specs.Places.{code_addresses}
use Rattle.elf_image.specs.CodeWords.{is_code_section, words_in}
use Rattle.elf_image.specs.Inner.Parts.{IsPart}
use Rattle.elf_image.proofs.sections.parts_of.Given as goal

abbrev pub invariant-loop-section : goal.invariant-loop-section
invariant-loop-section l =
    record {
      words : code_addresses l.parts.items ≡ flat_map words_in (filter (is_code_section l.load) (take l.section-index l.sections));
      parts : All IsPart l.parts.items;
      few : length l.parts.items ≤ l.section-index;
    }

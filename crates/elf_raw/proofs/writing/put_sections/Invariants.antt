use Rattle.std.proofs.Common.{◌≡◌, take}
use Rattle.std.specs.List.{All, flat_map}
use Rattle.elf_raw.specs.Sections.{section_at}
use Rattle.elf_raw.specs.Written.{section_bytes, laid}
use Rattle.elf_raw.proofs.writing.put_sections.Given as goal

abbrev pub invariant-loop-place : goal.invariant-loop-place
invariant-loop-place l =
    record {
      written : l.file ≡ laid l.initial.file l.offset (flat_map section_bytes (take l.place l.sections));
      back : All (λ section. section_at (section_bytes section) 0 ≡ section) (take l.place l.sections);
    }

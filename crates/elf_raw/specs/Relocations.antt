-- Relocation tables with addends (System V ABI, chapter 4, "Relocation": Elf32_Rela).
use Rattle.std.specs.Prelude.{ℕ, ◌+◌, ◌*◌, ◌/◌, List, [], map, if◌then◌else◌, ◌==◌}
use Rattle.std.specs.Int.{cast_signed, w32}
use Rattle.std.specs.List.{flat_map}
use Rattle.std.specs.List.{range_with_len}
use Rattle.elf_raw.specs.declared.section.RawSection.{RawSection}
use Rattle.elf_raw.specs.declared.relocation.RawRelocation.{RawRelocation}
use Rattle.elf_raw.specs.declared.relocation.TheConstants.{RELOCATION_SIZE}
use Rattle.elf_raw.specs.Header.{header_of}
use Rattle.elf_raw.specs.Numbers.{word_at}
use Rattle.elf_raw.specs.Sections.{type_relocations, section_of}

-- the bytes of an entry
abbrev pub relocation_size : ℕ
relocation_size = RELOCATION_SIZE

-- the entry that stands here, of the section with this number
abbrev pub relocation_at : List ℕ → (section : ℕ) → ℕ → RawRelocation
relocation_at bytes section at =
    record {
      section = section;
      offset = word_at bytes at;
      info = word_at bytes (at + 4);
      addend = cast_signed w32 (word_at bytes (at + 8));
    }

-- the entry at this place of a relocation table, counted from 0; the table is the section with this number
abbrev pub relocation_of : List ℕ → (number : ℕ) → RawSection → ℕ → RawRelocation
relocation_of bytes number section place = relocation_at bytes number (section.offset + relocation_size * place)

-- the relocations of a relocation table
abbrev pub relocations_in : List ℕ → (number : ℕ) → RawSection → List RawRelocation
relocations_in bytes number section = map (relocation_of bytes number section) (range_with_len 0 (section.size / relocation_size))

-- the relocations of the section with this number, among these, none where it is no relocation table
abbrev pub relocations_of_section : List ℕ → (sections : ℕ → RawSection) → ℕ → List RawRelocation
relocations_of_section bytes sections number =
    if (sections number).kind == type_relocations then relocations_in bytes number (sections number) else []

-- the relocations that the bytes hold at the relocation tables among so many sections, table by table in their order
abbrev pub relocations_among : List ℕ → (sections : ℕ → RawSection) → (count : ℕ) → List RawRelocation
relocations_among bytes sections count = flat_map (relocations_of_section bytes sections) (range_with_len 0 count)

-- those of the file's own sections
abbrev pub relocations_of : List ℕ → List RawRelocation
relocations_of bytes = relocations_among bytes (section_of bytes) (header_of bytes).shnum

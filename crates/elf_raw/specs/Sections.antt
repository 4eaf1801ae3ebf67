-- The section header table (System V ABI, chapter 4, "Sections": Elf32_Shdr).
use Rattle.std.specs.Prelude.{ℕ, ◌+◌, ◌*◌, Bool, List, map, ◌==◌, ◌||◌, if◌then◌else◌, slice_index_or}
use Rattle.std.specs.List.{range_with_len}
use Rattle.ae_nums.specs.declared.span.Span64.{Span64}
use Rattle.elf_raw.specs.declared.section.RawSection.{RawSection}
use Rattle.elf_raw.specs.declared.section.TheConstants.{SECTION_SIZE, NULL, SYMBOLS, STRINGS, RELOCATIONS, NO_BITS}
use Rattle.elf_raw.specs.Header.{header_of}
use Rattle.elf_raw.specs.Numbers.{word_at}

-- the bytes of an entry
abbrev pub section_size : ℕ
section_size = SECTION_SIZE

-- the section types that are used here: SHT_NULL, SHT_SYMTAB, SHT_STRTAB, SHT_RELA, SHT_NOBITS
abbrev pub type_null : ℕ
type_null = NULL

abbrev pub type_symbols : ℕ
type_symbols = SYMBOLS

abbrev pub type_strings : ℕ
type_strings = STRINGS

abbrev pub type_relocations : ℕ
type_relocations = RELOCATIONS

abbrev pub type_no_bits : ℕ
type_no_bits = NO_BITS

-- a section of this type has no bytes in the file
abbrev pub has_no_bytes : ℕ → Bool
has_no_bytes kind = (kind == type_null) || (kind == type_no_bits)

-- where the bytes of a section of this type stand
abbrev pub section_span : (kind offset size : ℕ) → Span64
section_span kind offset size = record { from = offset; to = if has_no_bytes kind then offset else offset + size }

-- the section with this number in a list, counted from 0; one with no type and no bytes where there is none
abbrev pub section_in : List RawSection → ℕ → RawSection
section_in sections number =
    slice_index_or sections number
    (record {
      name = 0;
      kind = type_null;
      flags = 0;
      addr = 0;
      offset = 0;
      size = 0;
      link = 0;
      info = 0;
      addralign = 0;
      entsize = 0;
      span = section_span type_null 0 0;
    })

-- where the entry with this number stands, counted from 0
abbrev pub section_offset : List ℕ → ℕ → ℕ
section_offset bytes number = (header_of bytes).shoff + section_size * number

-- the entry that stands here
abbrev pub section_at : List ℕ → ℕ → RawSection
section_at bytes at =
    record {
      name = word_at bytes at;
      kind = word_at bytes (at + 4);
      flags = word_at bytes (at + 8);
      addr = word_at bytes (at + 12);
      offset = word_at bytes (at + 16);
      size = word_at bytes (at + 20);
      link = word_at bytes (at + 24);
      info = word_at bytes (at + 28);
      addralign = word_at bytes (at + 32);
      entsize = word_at bytes (at + 36);
      span = section_span (word_at bytes (at + 4)) (word_at bytes (at + 16)) (word_at bytes (at + 20));
    }

-- the section with this number
abbrev pub section_of : List ℕ → ℕ → RawSection
section_of bytes number = section_at bytes (section_offset bytes number)

abbrev pub sections_of : List ℕ → List RawSection
sections_of bytes = map (section_of bytes) (range_with_len 0 (header_of bytes).shnum)

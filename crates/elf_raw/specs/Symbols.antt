-- Symbol tables (System V ABI, chapter 4, "Symbol Table": Elf32_Sym).
use Rattle.std.specs.Prelude.{ℕ, ◌+◌, ◌*◌, ◌/◌, List, [], map, slice_index, if◌then◌else◌, ◌==◌}
use Rattle.std.specs.List.{flat_map}
use Rattle.std.specs.List.{range_with_len}
use Rattle.elf_raw.specs.declared.section.RawSection.{RawSection}
use Rattle.elf_raw.specs.declared.symbol.RawSymbol.{RawSymbol}
use Rattle.elf_raw.specs.declared.symbol.TheConstants.{SYMBOL_SIZE}
use Rattle.elf_raw.specs.Header.{header_of}
use Rattle.elf_raw.specs.Names.{name_in}
use Rattle.elf_raw.specs.Numbers.{half_at, word_at}
use Rattle.elf_raw.specs.Sections.{type_symbols, section_of}

-- the bytes of an entry
abbrev pub symbol_size : ℕ
symbol_size = SYMBOL_SIZE

-- the entry that stands here, of the section with this number, whose names are in this string table
abbrev pub symbol_at : List ℕ → (section : ℕ) → (strings : RawSection) → ℕ → RawSymbol
symbol_at bytes section strings at =
    record {
      section = section;
      name = word_at bytes at;
      value = word_at bytes (at + 4);
      size = word_at bytes (at + 8);
      info = slice_index bytes (at + 12);
      other = slice_index bytes (at + 13);
      shndx = half_at bytes (at + 14);
      text = name_in bytes strings (word_at bytes at);
    }

-- the entry at this place of a symbol table, counted from 0; the table is the section with this number, among these
abbrev pub symbol_of : List ℕ → (sections : ℕ → RawSection) → (number : ℕ) → RawSection → ℕ → RawSymbol
symbol_of bytes sections number section place = symbol_at bytes number (sections section.link) (section.offset + symbol_size * place)

-- the symbols of a symbol table
abbrev pub symbols_in : List ℕ → (sections : ℕ → RawSection) → (number : ℕ) → RawSection → List RawSymbol
symbols_in bytes sections number section = map (symbol_of bytes sections number section) (range_with_len 0 (section.size / symbol_size))

-- the symbols of the section with this number, none where it is no symbol table
abbrev pub symbols_of_section : List ℕ → (sections : ℕ → RawSection) → ℕ → List RawSymbol
symbols_of_section bytes sections number =
    if (sections number).kind == type_symbols then symbols_in bytes sections number (sections number) else []

-- the symbols that the bytes hold at the symbol tables among so many sections, table by table in the order of the sections
abbrev pub symbols_among : List ℕ → (sections : ℕ → RawSection) → (count : ℕ) → List RawSymbol
symbols_among bytes sections count = flat_map (symbols_of_section bytes sections) (range_with_len 0 count)

-- those of the file's own sections
abbrev pub symbols_of : List ℕ → List RawSymbol
symbols_of bytes = symbols_among bytes (section_of bytes) (header_of bytes).shnum

-- The bytes of symbol tables, of string tables and of relocation tables, and what is read where they stand (System V ABI, chapter
-- 4, "Symbol Table", "String Table" and "Relocation"). How names are put into a string table is this project's own.
use Rattle.std.specs.Prelude.{◌≡◌, ℕ, ◌+◌, ◌≢◌, ⊤, List, [], ◌∷◌, ◌++◌, length, take, drop}
use Rattle.std.specs.Int.{cast_unsigned, w32}
use Rattle.std.specs.List.{All, AllByRecursion, flat_map}
use Rattle.byteorder.specs.Endian.{little_bytes}
use Rattle.elf_raw.specs.declared.relocation.RawRelocation.{RawRelocation}
use Rattle.elf_raw.specs.declared.section.RawSection.{RawSection}
use Rattle.elf_raw.specs.declared.symbol.RawSymbol.{RawSymbol}
use Rattle.elf_raw.specs.Names.{strings_of, name_in}
use Rattle.elf_raw.specs.Relocations.{relocations_in}
use Rattle.elf_raw.specs.Symbols.{symbols_in}
use Rattle.elf_raw.specs.Written.{word_bytes}

-- Elf32_Sym
abbrev pub symbol_bytes : RawSymbol → List ℕ
symbol_bytes symbol =
    word_bytes (symbol.name ∷ symbol.value ∷ symbol.size ∷ []) ++ symbol.info ∷ symbol.other ∷ little_bytes 2 symbol.shndx

-- Elf32_Rela
abbrev pub relocation_bytes : RawRelocation → List ℕ
relocation_bytes relocation = word_bytes (relocation.offset ∷ relocation.info ∷ cast_unsigned w32 relocation.addend ∷ [])

-- one after the other
abbrev pub symbol_table : List RawSymbol → List ℕ
symbol_table symbols = flat_map symbol_bytes symbols

abbrev pub relocation_table : List RawRelocation → List ℕ
relocation_table relocations = flat_map relocation_bytes relocations

-- a name, and a zero behind it
abbrev pub name_bytes : RawSymbol → List ℕ
name_bytes symbol = symbol.text ++ 0 ∷ []

-- a zero, and then the names of symbols in their order
abbrev pub string_table : List RawSymbol → List ℕ
string_table symbols = 0 ∷ flat_map name_bytes symbols

-- each symbol's name begins behind the name before it and its zero, the first at this place; and no name has a zero in it
abbrev pub AreNamedFrom : (place : ℕ) → List RawSymbol → Type 0
AreNamedFrom place [] = ⊤
AreNamedFrom place (symbol ∷ symbols) =
    (symbol.name ≡ place) × AllByRecursion (λ byte. byte ≢ 0) symbol.text × AreNamedFrom (place + length symbol.text + 1) symbols

-- the section's bytes in the file are these
pub record Stands (file : List ℕ) (section : RawSection) (table : List ℕ) : Type 0 where
  pub size : section.size ≡ length table
  pub bytes : take (length table) (drop section.offset file) ≡ table

-- where this table stands as the section with this number, and its names are found in the string table that it links, these are its
-- symbols
abbrev pub AreSymbolsIn : List ℕ → List RawSymbol → Type 0
AreSymbolsIn table symbols =
    (file : List ℕ) (sections : ℕ → RawSection) (number : ℕ) → Stands file (sections number) table
    → All (λ symbol. symbol.section ≡ number) symbols
    → All (λ symbol. name_in file (sections (sections number).link) symbol.name ≡ symbol.text) symbols
    → symbols_in file sections number (sections number) ≡ symbols

-- where this table stands as a string table, the names of symbols that are named by it are found in it
abbrev pub AreNamesIn : List ℕ → List RawSymbol → Type 0
AreNamesIn table symbols =
    (file : List ℕ) (strings : RawSection) → strings_of file strings ≡ table → AreNamedFrom 1 symbols
    → All (λ symbol. name_in file strings symbol.name ≡ symbol.text) symbols

-- where this table stands as the section with this number, these are its relocations
abbrev pub AreRelocationsIn : List ℕ → List RawRelocation → Type 0
AreRelocationsIn table relocations =
    (file : List ℕ) (section : RawSection) (number : ℕ) → Stands file section table
    → All (λ relocation. relocation.section ≡ number) relocations
    → relocations_in file number section ≡ relocations

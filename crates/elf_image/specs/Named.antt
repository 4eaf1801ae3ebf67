-- Code words that relocations name (System V ABI, chapter 4, "Relocation": Elf32_Rela; the numbers of the types are the RISC-V
-- psABI's: R_RISCV_32, CALL, CALL_PLT, PCREL_HI20, HI20, ADD32, 32_PCREL). Which types are taken is this project's own.
use Rattle.std.specs.Prelude.{ℕ, ◌+◌, ◌/◌, ◌%◌, Bool, not, ◌&&◌, ◌==◌, List, [], ◌∷◌, map, nat_lt, Option}
use Rattle.std.specs.List.{list_any, filter, position}
use Rattle.rv_code.specs.Ordered.{rising}
use Rattle.elf_raw.specs.declared.relocation.RawRelocation.{RawRelocation}
use Rattle.elf_raw.specs.declared.section.RawSection.{RawSection}
use Rattle.elf_raw.specs.Header.{header_of}
use Rattle.elf_raw.specs.Relocations.{relocations_of}
use Rattle.elf_raw.specs.Sections.{type_symbols, section_of}
use Rattle.elf_raw.specs.Symbols.{symbol_size, symbol_of}
use Rattle.rv_code.specs.Numbers.{wrap, unsigned}
use Rattle.elf_image.specs.CodeWords.{is_code_word}

abbrev pub naming_types : List ℕ
naming_types = 1 ∷ 18 ∷ 19 ∷ 23 ∷ 26 ∷ 35 ∷ 57 ∷ []

-- of one of these types
abbrev pub is_naming : RawRelocation → Bool
is_naming relocation = list_any (λ type. type == relocation.info % 256) naming_types

-- the number of the section that the relocation's own section links
abbrev pub linked : List ℕ → RawRelocation → ℕ
linked bytes relocation = (section_of bytes relocation.section).link

-- the symbol's number in its table
abbrev pub symbol_number : RawRelocation → ℕ
symbol_number relocation = relocation.info / 256

-- it is a symbol table, and has the symbol with this number
abbrev pub has_entry : RawSection → ℕ → Bool
has_entry section number = (section.kind == type_symbols) && nat_lt number (section.size / symbol_size)

-- the linked section is there, and has the symbol
abbrev pub has_symbol : List ℕ → RawRelocation → Bool
has_symbol bytes relocation =
    nat_lt (linked bytes relocation) (header_of bytes).shnum && has_entry (section_of bytes (linked bytes relocation)) (symbol_number relocation)

-- it names a symbol that isn't there
abbrev pub names_nothing : List ℕ → RawRelocation → Bool
names_nothing bytes relocation = is_naming relocation && not (has_symbol bytes relocation)

-- the number of the first relocation that names no symbol, over all tables
abbrev pub bad_relocation : List ℕ → Option ℕ
bad_relocation bytes = position (names_nothing bytes) (relocations_of bytes)

-- the value of its symbol
abbrev pub symbol_value : List ℕ → RawRelocation → ℕ
symbol_value bytes relocation =
    (symbol_of bytes (section_of bytes) (linked bytes relocation) (section_of bytes (linked bytes relocation)) (symbol_number relocation)).value

-- the value of the symbol and the addend
abbrev pub address_named : List ℕ → RawRelocation → ℕ
address_named bytes relocation = wrap (symbol_value bytes relocation + unsigned relocation.addend)

-- the named addresses that are code words, in order, each once
abbrev pub named_of : List ℕ → List ℕ
named_of bytes = rising (filter (is_code_word bytes) (map (address_named bytes) (filter is_naming (relocations_of bytes))))

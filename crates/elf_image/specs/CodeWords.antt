-- Code words, and the functions that symbols name (System V ABI, chapter 4: SHF_ALLOC, SHF_EXECINSTR, SHT_NULL, SHT_NOBITS,
-- STT_FUNC). Which words are code is this project's own: those of sections that the one executable segment holds.
use Rattle.std.specs.Prelude.{ℕ, ◌+◌, ◌-◌, ◌/◌, ◌%◌, Bool, not, ◌&&◌, ◌==◌, List, map, nat_le}
use Rattle.std.specs.List.{list_any, filter, flat_map, range_with_len, position_or_len}
use Rattle.rv_code.specs.Ordered.{rising}
use Rattle.elf_raw.specs.declared.section.RawSection.{RawSection}
use Rattle.elf_raw.specs.declared.segment.RawSegment.{RawSegment}
use Rattle.elf_raw.specs.declared.symbol.RawSymbol.{RawSymbol}
use Rattle.elf_raw.specs.Numbers.{word_at}
use Rattle.elf_raw.specs.Sections.{has_no_bytes, sections_of}
use Rattle.elf_raw.specs.Segments.{segment_of, segments_of}
use Rattle.elf_raw.specs.Symbols.{symbols_of}
use Rattle.rv_code.specs.declared.extent.Extent.{Extent}
use Rattle.rv_code.specs.declared.image.Name.{Name}
use Rattle.rv_code.specs.declared.image.Range.{Range}
use Rattle.rv_code.specs.Places.{words_of, extents_at}
use Rattle.elf_image.specs.Loads.{is_code_load}

-- the program header that loads code, the first where there are more
abbrev pub code_load : List ℕ → RawSegment
code_load bytes = segment_of bytes (position_or_len is_code_load (segments_of bytes))

-- the section's addresses lie within those of the program header's bytes in the file
abbrev pub lies_in : RawSegment → RawSection → Bool
lies_in segment section =
    nat_le segment.vaddr section.addr && nat_le (section.addr + section.size) (segment.vaddr + segment.filesz)

-- SHF_ALLOC and SHF_EXECINSTR, with bytes in the file that are loaded as code
abbrev pub is_code_section : (load : RawSegment) → RawSection → Bool
is_code_section load section =
    (section.flags / 2 % 2 == 1) && (section.flags / 4 % 2 == 1) && not (has_no_bytes section.kind) && lies_in load section

-- the multiples of 4 whose four bytes lie in the section
abbrev pub words_in : RawSection → List ℕ
words_in section =
    filter (λ address. (address % 4 == 0) && nat_le (address + 4) (section.addr + section.size)) (range_with_len section.addr section.size)

-- the addresses of the code words of sections, in order
abbrev pub words_by : (load : RawSegment) → List RawSection → List ℕ
words_by load sections = rising (flat_map words_in (filter (is_code_section load) sections))

-- the addresses of the code words, in order
abbrev pub code_words : List ℕ → List ℕ
code_words bytes = words_by (code_load bytes) (sections_of bytes)

abbrev pub is_code_word : List ℕ → ℕ → Bool
is_code_word bytes address = list_any (λ word. word == address) (code_words bytes)

-- the word that is loaded there
abbrev pub value_at : List ℕ → ℕ → ℕ
value_at bytes address = word_at bytes ((code_load bytes).offset + (address - (code_load bytes).vaddr))

abbrev pub range_of : List ℕ → Extent → Range
range_of bytes extent = record { start = extent.start; words = map (value_at bytes) (words_of extent) }

-- words that touch are of one range
abbrev pub extents_in : List ℕ → List Extent
extents_in bytes = extents_at (code_words bytes)

abbrev pub code_of : List ℕ → List Range
code_of bytes = map (range_of bytes) (extents_in bytes)

-- STT_FUNC, at a code word
abbrev pub is_function_at : (is_code : ℕ → Bool) → RawSymbol → Bool
is_function_at is_code symbol = (symbol.info % 16 == 2) && is_code symbol.value

abbrev pub is_function : List ℕ → RawSymbol → Bool
is_function bytes = is_function_at (is_code_word bytes)

abbrev pub name_of : RawSymbol → Name
name_of symbol = record { address = symbol.value; text = symbol.text }

-- the names of functions, in the order of the symbols
abbrev pub names_of : List ℕ → List Name
names_of bytes = map name_of (filter (is_function bytes) (symbols_of bytes))

-- Which files aren't taken for a static executable of RV32 without compressed instructions and floating point registers in
-- calls: the first refusal that holds, in this order. What the fields mean is the System V ABI's, the machine's number and
-- flags are the RISC-V psABI's; the refusals and their order are this project's own.
use Rattle.std.specs.Prelude.{◌≡◌, ℕ, ◌<◌, ◌≤◌, false, ◌+◌, ◌*◌, ◌/◌, ◌%◌, Bool, not, ◌&&◌, ◌||◌, ◌==◌, List, [], ◌∷◌, length, take, nat_lt, if◌then◌else◌, Option, Some, slice_index}
use Rattle.std.specs.List.{find}
use Rattle.std.specs.Option.{option_map, option_or}
use Rattle.std.specs.List.{range_with_len}
use Rattle.std.specs.Str.{bytes_eq}
use Rattle.elf_raw.specs.declared.fault.ElfFault.{ElfFault}
use Rattle.elf_raw.specs.declared.fault.ElfFault.TheVariants.{NotElf, NotElf32Le, NotExec, NotRiscv, Compressed, OtherAbi, BadTable}
use Rattle.elf_raw.specs.declared.section.RawSection.{RawSection}
use Rattle.elf_raw.specs.declared.segment.RawSegment.{RawSegment}
use Rattle.elf_raw.specs.Header.{header_size, header_of}
use Rattle.elf_raw.specs.Segments.{segment_size, segment_offset, segment_of}
use Rattle.elf_raw.specs.Relocations.{relocation_size}
use Rattle.elf_raw.specs.Symbols.{symbol_size}
use Rattle.elf_raw.specs.Sections.{section_size, type_symbols, type_strings, type_relocations, has_no_bytes, section_offset, section_of}

-- so many bytes from an offset on reach past an end; a piece with no bytes reaches past nothing
abbrev pub passes : (end offset size : ℕ) → Bool
passes end offset size = not (size == 0) && nat_lt end (offset + size)

-- the same for the end of a file
abbrev pub reaches_past : List ℕ → (offset size : ℕ) → Bool
reaches_past bytes offset size = passes (length bytes) offset size

-- 0x7f and `ELF`
abbrev pub magic : List ℕ
magic = 0x7f ∷ 0x45 ∷ 0x4c ∷ 0x46 ∷ []

-- the first four bytes are the magic number
abbrev pub has_magic : List ℕ → Bool
has_magic bytes = bytes_eq (take 4 bytes) magic

-- the bytes of a program header reach past an end
abbrev pub segment_passes : (end : ℕ) → RawSegment → Bool
segment_passes end segment = passes end segment.offset segment.filesz

-- those of the one with this number reach past the end of the file
abbrev pub segment_offends : List ℕ → ℕ → Bool
segment_offends bytes number = segment_passes (length bytes) (segment_of bytes number)

-- a symbol table, among so many sections, with entries of another size, or part of an entry, or no string table
abbrev pub symbols_misfit : (sections : ℕ → RawSection) → (count : ℕ) → RawSection → Bool
symbols_misfit sections count section =
    (section.kind == type_symbols)
    && (not (section.entsize == symbol_size) || not (section.size % symbol_size == 0)
    || not (nat_lt section.link count) || not ((sections section.link).kind == type_strings))

-- the same among those of a file
abbrev pub symbols_offend : List ℕ → RawSection → Bool
symbols_offend bytes section = symbols_misfit (section_of bytes) (header_of bytes).shnum section

-- a relocation table with entries of another size, or part of an entry
abbrev pub relocations_offend : RawSection → Bool
relocations_offend section = (section.kind == type_relocations) && (not (section.entsize == relocation_size) || not (section.size % relocation_size == 0))

-- a section, among so many, whose bytes reach past an end or that can't be read
abbrev pub section_misfits : (end : ℕ) → (sections : ℕ → RawSection) → (count : ℕ) → RawSection → Bool
section_misfits end sections count section =
    (not (has_no_bytes section.kind) && passes end section.offset section.size)
    || symbols_misfit sections count section
    || relocations_offend section

-- the one with this number is such a section of the file
abbrev pub section_offends : List ℕ → ℕ → Bool
section_offends bytes number = section_misfits (length bytes) (section_of bytes) (header_of bytes).shnum (section_of bytes number)

-- the offset of the first program header, and then of the first section header, that offends
abbrev pub bad_segment : List ℕ → Option ℕ
bad_segment bytes = option_map (segment_offset bytes) (find (segment_offends bytes) (range_with_len 0 (header_of bytes).phnum))

abbrev pub bad_section : List ℕ → Option ℕ
bad_section bytes = option_map (section_offset bytes) (find (section_offends bytes) (range_with_len 0 (header_of bytes).shnum))

-- the offset of what is wrong with the tables, by the field of the header where that says it
abbrev pub bad_table : List ℕ → Option ℕ
bad_table bytes =
    if not ((header_of bytes).phnum == 0) && not ((header_of bytes).phentsize == segment_size) then Some 42
    else (if reaches_past bytes (header_of bytes).phoff (segment_size * (header_of bytes).phnum) then Some 28
    else (if not ((header_of bytes).shnum == 0) && not ((header_of bytes).shentsize == section_size) then Some 46
    else (if reaches_past bytes (header_of bytes).shoff (section_size * (header_of bytes).shnum) then Some 32
    else option_or (bad_segment bytes) (bad_section bytes))))

-- a bit of the header's flags
abbrev pub flag : List ℕ → ℕ → Bool
flag bytes bit = (header_of bytes).flags / bit % 2 == 1

-- of a file that is an ELF file of 32 bits
abbrev pub table_refusal : List ℕ → Option ElfFault
table_refusal bytes =
    -- ET_EXEC, EM_RISCV
    if not ((header_of bytes).kind == 2) then Some NotExec
    else (if not ((header_of bytes).machine == 243) then Some NotRiscv
    -- EF_RISCV_RVC; EF_RISCV_FLOAT_ABI and EF_RISCV_RVE
    else (if flag bytes 1 then Some Compressed
    else (if flag bytes 2 || flag bytes 4 || flag bytes 8 then Some OtherAbi
    else option_map BadTable (bad_table bytes))))

abbrev pub elf_refusal : List ℕ → Option ElfFault
elf_refusal bytes =
    if nat_lt (length bytes) header_size || not (has_magic bytes) then Some NotElf
    -- EI_CLASS ELFCLASS32, EI_DATA ELFDATA2LSB
    else (if not (slice_index bytes 4 == 1) || not (slice_index bytes 5 == 1) then Some NotElf32Le
    else table_refusal bytes)

-- What reading the tables rests on: the tables lie within the file, and so do the bytes of each program header, and of each section that
-- has some; and the string table of each symbol table is there.
pub record IsSound (bytes : List ℕ) : Type 0 where
  pub header : header_size ≤ length bytes
  pub segments : reaches_past bytes (header_of bytes).phoff (segment_size * (header_of bytes).phnum) ≡ false
  pub sections : reaches_past bytes (header_of bytes).shoff (section_size * (header_of bytes).shnum) ≡ false
  pub pieces : (number : ℕ) → number < (header_of bytes).phnum → segment_offends bytes number ≡ false
  pub held : (number : ℕ) → number < (header_of bytes).shnum → has_no_bytes (section_of bytes number).kind ≡ false
      → reaches_past bytes (section_of bytes number).offset (section_of bytes number).size ≡ false
  pub linked : (number : ℕ) → number < (header_of bytes).shnum → (section_of bytes number).kind ≡ type_symbols
      → (section_of bytes number).link < (header_of bytes).shnum

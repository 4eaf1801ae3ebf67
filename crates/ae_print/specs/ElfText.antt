-- The text of an ELF file's tables: its lines are this project's own. What the fields mean is the System V ABI's (chapter 4, "ELF
-- Header" and "Sections", and chapter 5, "Program Header"). Places and counts are decimal, all else is eight hexadecimal digits.
use Rattle.std.specs.Prelude.{ℕ, List, ◌++◌, codes, length}
use Rattle.elf_raw.specs.declared.header.RawHeader.{RawHeader}
use Rattle.elf_raw.specs.declared.raw.RawElf.{RawElf}
use Rattle.elf_raw.specs.declared.section.RawSection.{RawSection}
use Rattle.elf_raw.specs.declared.segment.RawSegment.{RawSegment}
use Rattle.ae_nums.specs.Decimal.{decimal_text}
use Rattle.ae_nums.specs.Hex.{hex8_text}
use Rattle.ae_nums.specs.Trace.{newline}
use Rattle.ae_print.specs.Numbered.{numbered_lines}

-- as `entry 00010074 flags 00000000`
abbrev pub header_line : RawHeader → List ℕ
header_line header = codes "entry " ++ hex8_text header.entry ++ codes " flags " ++ hex8_text header.flags ++ newline

-- the front of a program header's line, and the rest of it
abbrev pub segment_front : (place : ℕ) → RawSegment → List ℕ
segment_front place segment =
    codes "segment " ++ decimal_text place
    ++ codes " type " ++ hex8_text segment.kind
    ++ codes " offset " ++ hex8_text segment.offset

abbrev pub segment_rest : RawSegment → List ℕ
segment_rest segment =
    codes " vaddr " ++ hex8_text segment.vaddr
    ++ codes " filesz " ++ hex8_text segment.filesz
    ++ codes " memsz " ++ hex8_text segment.memsz
    ++ codes " flags " ++ hex8_text segment.flags
    ++ newline

-- as `segment 0 type 00000001 offset 00000000 vaddr 00010000 filesz 00000080 memsz 00000080 flags 00000005`
abbrev pub segment_line : (place : ℕ) → RawSegment → List ℕ
segment_line place segment = segment_front place segment ++ segment_rest segment

abbrev pub segment_lines : List RawSegment → List ℕ
segment_lines segments = numbered_lines segment_line segments

-- the front of a section's line, and the rest of it
abbrev pub section_front : (place : ℕ) → RawSection → List ℕ
section_front place section =
    codes "section " ++ decimal_text place
    ++ codes " type " ++ hex8_text section.kind
    ++ codes " flags " ++ hex8_text section.flags

abbrev pub section_rest : RawSection → List ℕ
section_rest section =
    codes " addr " ++ hex8_text section.addr
    ++ codes " offset " ++ hex8_text section.offset
    ++ codes " size " ++ hex8_text section.size
    ++ newline

-- as `section 1 type 00000001 flags 00000006 addr 00010074 offset 00000074 size 0000000c`
abbrev pub section_line : (place : ℕ) → RawSection → List ℕ
section_line place section = section_front place section ++ section_rest section

abbrev pub section_lines : List RawSection → List ℕ
section_lines sections = numbered_lines section_line sections

-- the header, the program headers and the sections
abbrev pub table_lines : RawElf → List ℕ
table_lines raw = header_line raw.header ++ segment_lines raw.segments ++ section_lines raw.sections

-- a name and a number
abbrev pub count_line : List ℕ → ℕ → List ℕ
count_line name count = name ++ decimal_text count ++ newline

-- all lines
abbrev pub elf_text : RawElf → List ℕ
elf_text raw =
    table_lines raw
    ++ count_line (codes "symbols ") (length raw.symbols)
    ++ count_line (codes "relocations ") (length raw.relocations)

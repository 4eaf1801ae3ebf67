-- The bytes of a file with a header, tables and pieces at their offsets. Numbers stand with the lowest byte first, and the
-- fields in the order of the System V ABI (chapter 4, "ELF Header" and "Sections"; chapter 5, "Program Header").
use Rattle.std.specs.Prelude.{ℕ, ◌+◌, ◌==◌, max, List, [], ◌∷◌, ◌++◌, length, take, drop, replicate, if◌then◌else◌}
use Rattle.std.specs.List.{flat_map, fold}
use Rattle.byteorder.specs.Endian.{little_bytes}
use Rattle.elf_raw.specs.declared.header.RawHeader.{RawHeader}
use Rattle.elf_raw.specs.declared.piece.Piece.{Piece}
use Rattle.elf_raw.specs.declared.raw.RawElf.{RawElf}
use Rattle.elf_raw.specs.declared.section.RawSection.{RawSection}
use Rattle.elf_raw.specs.declared.segment.RawSegment.{RawSegment}

-- numbers of two bytes each, one after the other
abbrev pub half_bytes : List ℕ → List ℕ
half_bytes halves = flat_map (little_bytes 2) halves

-- and of four
abbrev pub word_bytes : List ℕ → List ℕ
word_bytes words = flat_map (little_bytes 4) words

-- Elf32_Ehdr
unfoldable pub header_bytes : RawHeader → List ℕ
header_bytes header =
    header.ident
    ++ half_bytes (header.kind ∷ header.machine ∷ [])
    ++ word_bytes (header.version ∷ header.entry ∷ header.phoff ∷ header.shoff ∷ header.flags ∷ [])
    ++ half_bytes (header.ehsize ∷ header.phentsize ∷ header.phnum ∷ header.shentsize ∷ header.shnum ∷ header.shstrndx ∷ [])

-- Elf32_Phdr
unfoldable pub segment_bytes : RawSegment → List ℕ
segment_bytes segment =
    word_bytes
    (segment.kind ∷ segment.offset ∷ segment.vaddr ∷ segment.paddr ∷ segment.filesz ∷ segment.memsz ∷ segment.flags ∷ segment.align ∷ [])

-- Elf32_Shdr
unfoldable pub section_bytes : RawSection → List ℕ
section_bytes section =
    word_bytes
    (section.name ∷ section.kind ∷ section.flags ∷ section.addr ∷ section.offset ∷ section.size ∷ section.link ∷ section.info
    ∷ section.addralign ∷ section.entsize ∷ [])

-- the parts of the file: the header, the two tables and the pieces
abbrev pub parts_of : RawElf → List Piece → List Piece
parts_of raw pieces =
    record { offset = 0; bytes = header_bytes raw.header }
    ∷ record { offset = raw.header.phoff; bytes = flat_map segment_bytes raw.segments }
    ∷ record { offset = raw.header.shoff; bytes = flat_map section_bytes raw.sections }
    ∷ pieces

-- where so many bytes from an offset on end; no bytes end at the front
abbrev pub end_of : (offset size : ℕ) → ℕ
end_of offset size = if size == 0 then 0 else offset + size

-- where the last of the parts ends
abbrev pub last_end : (end : ℕ) → Piece → ℕ
last_end end part = max end (end_of part.offset (length part.bytes))

abbrev pub file_end : List Piece → ℕ
file_end parts = fold last_end 0 parts

-- these bytes from an offset on in place of those there
abbrev pub laid : List ℕ → (offset : ℕ) → List ℕ → List ℕ
laid file offset bytes = take offset file ++ (bytes ++ drop (offset + length bytes) file)

abbrev pub lay : List ℕ → Piece → List ℕ
lay file part = laid file part.offset part.bytes

-- the parts at their offsets, with zeros between, up to the end of the last
unfoldable pub file_of : RawElf → List Piece → List ℕ
file_of raw pieces = fold lay (replicate (file_end (parts_of raw pieces)) 0) (parts_of raw pieces)

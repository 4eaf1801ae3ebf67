-- Which tables, with pieces, can be written so that what is written is read back as the same tables.
use Rattle.std.specs.Prelude.{◌≡◌, ℕ, ◌<◌, ◌≤◌, ◌+◌, ◌%◌, true, false, List, length, slice_index}
use Rattle.std.specs.List.{All, AllPairs}
use Rattle.ae_nums.specs.declared.span.Span64.{Span64}
use Rattle.ae_nums.specs.Spans.{Meets}
use Rattle.elf_raw.specs.declared.limits.TheConstants.{FILE_LIMIT}
use Rattle.elf_raw.specs.declared.piece.Piece.{Piece}
use Rattle.elf_raw.specs.declared.raw.RawElf.{RawElf}
use Rattle.elf_raw.specs.Refusal.{has_magic, segment_passes, section_misfits}
use Rattle.elf_raw.specs.Relocations.{relocations_among}
use Rattle.elf_raw.specs.Sections.{section_size, section_span, section_in}
use Rattle.elf_raw.specs.Segments.{segment_size, segment_span}
use Rattle.elf_raw.specs.Symbols.{symbols_among}
use Rattle.elf_raw.specs.Written.{parts_of, file_end, file_of}

-- the header's counts are the lengths of the lists
pub record IsCounted (raw : RawElf) : Type 0 where
  pub segments : raw.header.phnum ≡ length raw.segments
  pub sections : raw.header.shnum ≡ length raw.sections

-- where the bytes of a segment or a section stand is what its fields say
pub record IsSpanned (raw : RawElf) : Type 0 where
  pub segments : All (λ segment. segment.span ≡ segment_span segment.offset segment.filesz) raw.segments
  pub sections : All (λ section. section.span ≡ section_span section.kind section.offset section.size) raw.sections

-- where a part of the file stands
abbrev pub part_span : Piece → Span64
part_span part = record { from = part.offset; to = part.offset + length part.bytes }

-- no byte is in both
abbrev pub IsApart : Piece → Piece → Type 0
IsApart part other = ¬ Meets (part_span part) (part_span other)

-- the parts end within the limit of a file, and no two of them meet
pub record IsPlaced (parts : List Piece) : Type 0 where
  pub end : file_end parts ≤ FILE_LIMIT
  pub apart : AllPairs IsApart parts

-- the symbols and the relocations are those that the bytes hold at the sections that are such tables
pub record IsHeld (raw : RawElf) (bytes : List ℕ) : Type 0 where
  pub symbols : symbols_among bytes (section_in raw.sections) (length raw.sections) ≡ raw.symbols
  pub relocations : relocations_among bytes (section_in raw.sections) (length raw.sections) ≡ raw.relocations

-- none of the refusals holds of what the fields say, of a file with this end
pub record IsTaken (raw : RawElf) (end : ℕ) : Type 0 where
  pub magic : has_magic raw.header.ident ≡ true
  -- EI_CLASS ELFCLASS32, EI_DATA ELFDATA2LSB
  pub class : slice_index raw.header.ident 4 ≡ 1
  pub order : slice_index raw.header.ident 5 ≡ 1
  -- ET_EXEC, EM_RISCV
  pub kind : raw.header.kind ≡ 2
  pub machine : raw.header.machine ≡ 243
  -- EF_RISCV_RVC, EF_RISCV_FLOAT_ABI, EF_RISCV_RVE
  pub flags : raw.header.flags % 16 ≡ 0
  pub phentsize : 0 < raw.header.phnum → raw.header.phentsize ≡ segment_size
  pub shentsize : 0 < raw.header.shnum → raw.header.shentsize ≡ section_size
  pub segments : All (λ segment. segment_passes end segment ≡ false) raw.segments
  pub sections : All (λ section. section_misfits end (section_in raw.sections) (length raw.sections) section ≡ false) raw.sections

-- the five conditions
pub record IsWritable (raw : RawElf) (pieces : List Piece) : Type 0 where
  pub counted : IsCounted raw
  pub spanned : IsSpanned raw
  pub placed : IsPlaced (parts_of raw pieces)
  pub held : IsHeld raw (file_of raw pieces)
  pub taken : IsTaken raw (file_end (parts_of raw pieces))

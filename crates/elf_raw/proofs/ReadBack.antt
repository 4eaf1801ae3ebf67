-- A file in which the header and the tables stand is read back as them.
use Rattle.std.proofs.Common.{◌≡◌, ℕ, ◌+◌, ◌*◌, ◌<◌, ◌≤◌, false, List, length, get_or, None, sym, ap, ◌∙◌, arith}
use Rattle.std.proofs.lemmas.List.FromFn.{fill_by_all}
use Rattle.std.specs.List.{All, flat_map}
use Rattle.elf_raw.specs.declared.header.RawHeader.{RawHeader}
use Rattle.elf_raw.specs.declared.raw.RawElf.{RawElf}
use Rattle.elf_raw.specs.declared.section.RawSection.{RawSection}
use Rattle.elf_raw.specs.declared.segment.RawSegment.{RawSegment}
use Rattle.elf_raw.specs.Header.{header_of}
use Rattle.elf_raw.specs.Raw.{raw_of}
use Rattle.elf_raw.specs.Refusal.{segment_passes, section_misfits, segment_offends, section_offends, elf_refusal}
use Rattle.elf_raw.specs.Relocations.{relocations_among, relocations_of}
use Rattle.elf_raw.specs.Sections.{section_at, section_of, section_in, sections_of}
use Rattle.elf_raw.specs.Segments.{segment_at, segment_of, segments_of}
use Rattle.elf_raw.specs.Symbols.{symbols_among, symbols_of}
use Rattle.elf_raw.specs.Writable.{IsCounted, IsHeld, IsTaken}
use Rattle.elf_raw.specs.Written.{header_bytes, segment_bytes, section_bytes, end_of}
use Rattle.elf_raw.proofs.Placed.{IsAt}
use Rattle.elf_raw.proofs.RowBytes.{segment_bytes_length, section_bytes_length}
use Rattle.elf_raw.proofs.RowsAt.{row_at, header_there, segment_there, section_there}
use Rattle.elf_raw.proofs.SameSections.{same_misfits, symbols_same, relocations_same}
use Rattle.elf_raw.proofs.Taken.{tables_taken, file_taken}

-- the bytes of the header and of each row are read as it
pub record IsBack (raw : RawElf) : Type 0 where
  pub size : length (header_bytes raw.header) ≡ 52
  pub header : header_of (header_bytes raw.header) ≡ raw.header
  pub segments : All (λ segment. segment_at (segment_bytes segment) 0 ≡ segment) raw.segments
  pub sections : All (λ section. section_at (section_bytes section) 0 ≡ section) raw.sections

-- these bytes stand in the file
pub record HasTables (file : List ℕ) (raw : RawElf) : Type 0 where
  pub whole : 52 ≤ length file
  pub header : IsAt file 0 (header_bytes raw.header)
  pub segments : IsAt file raw.header.phoff (flat_map segment_bytes raw.segments)
  pub sections : IsAt file raw.header.shoff (flat_map section_bytes raw.sections)

module _ (file : List ℕ) (raw : RawElf) (has : HasTables file raw) (back : IsBack raw) (counted : IsCounted raw) where
  same_header : header_of file ≡ raw.header
  same_header = header_there file (header_bytes raw.header) back.size has.whole has.header ∙ back.header

  same_segment : (k : ℕ) (d : RawSegment) → k < length raw.segments → segment_of file k ≡ get_or raw.segments k d
  same_segment k d left =
      let row = row_at segment_bytes 32 segment_bytes_length file raw.header.phoff raw.segments has.segments k d left (omega arith) in
      ap (λ (h : RawHeader). segment_at file (h.phoff + 32 * k)) same_header
      ∙ segment_there file (raw.header.phoff + 32 * k) (segment_bytes (get_or raw.segments k d)) (segment_bytes_length (get_or raw.segments k d)) row
      ∙ back.segments k d left

  same_section : (k : ℕ) (d : RawSection) → k < length raw.sections → section_of file k ≡ get_or raw.sections k d
  same_section k d left =
      let row = row_at section_bytes 40 section_bytes_length file raw.header.shoff raw.sections has.sections k d left (omega arith) in
      ap (λ (h : RawHeader). section_at file (h.shoff + 40 * k)) same_header
      ∙ section_there file (raw.header.shoff + 40 * k) (section_bytes (get_or raw.sections k d)) (section_bytes_length (get_or raw.sections k d)) row
      ∙ back.sections k d left

  phnum : (header_of file).phnum ≡ length raw.segments
  phnum = ap (λ (h : RawHeader). h.phnum) same_header ∙ counted.segments

  shnum : (header_of file).shnum ≡ length raw.sections
  shnum = ap (λ (h : RawHeader). h.shnum) same_header ∙ counted.sections

  same_segments : segments_of file ≡ raw.segments
  same_segments =
      let count = phnum in
      sym (fill_by_all (segment_of file) raw.segments (header_of file).phnum (segment_of file 0) (sym count) (λ k below. sym (same_segment k (segment_of file 0) (omega arith))))

  same_sections : sections_of file ≡ raw.sections
  same_sections =
      let count = shnum in
      sym (fill_by_all (section_of file) raw.sections (header_of file).shnum (section_of file 0) (sym count) (λ k below. sym (same_section k (section_of file 0) (omega arith))))

  same_in : (number : ℕ) → number < length raw.sections → section_of file number ≡ section_in raw.sections number
  same_in number below = same_section number _ below

  module _ (held : IsHeld raw file) (taken : IsTaken raw (length file)) where
    same_symbols : symbols_of file ≡ raw.symbols
    same_symbols =
        ap (symbols_among file (section_of file)) shnum
        ∙ symbols_same (section_of file) (section_in raw.sections) (length raw.sections) same_in file (length file) (λ number below. taken.sections number _ below)
        ∙ held.symbols

    same_relocations : relocations_of file ≡ raw.relocations
    same_relocations =
        ap (relocations_among file (section_of file)) shnum
        ∙ relocations_same (section_of file) (section_in raw.sections) (length raw.sections) same_in file
        ∙ held.relocations

    pub read_back : raw_of file ≡ raw
    read_back = λ i.
        record {
          header = same_header i;
          segments = same_segments i;
          sections = same_sections i;
          symbols = same_symbols i;
          relocations = same_relocations i;
        }

    no_segment : (k : ℕ) → k < raw.header.phnum → segment_offends file k ≡ false
    no_segment k below =
        let count = counted.segments in
        let here : k < length raw.segments = omega arith in
        ap (segment_passes (length file)) (same_segment k (segment_of file 0) here) ∙ taken.segments k (segment_of file 0) here

    no_section : (k : ℕ) → k < raw.header.shnum → section_offends file k ≡ false
    no_section k below =
        let count = counted.sections in
        let here : k < length raw.sections = omega arith in
        ap (λ n. section_misfits (length file) (section_of file) n (section_of file k)) shnum
        ∙ ap (section_misfits (length file) (section_of file) (length raw.sections)) (same_in k here)
        ∙ same_misfits (section_of file) (section_in raw.sections) (length raw.sections) same_in (length file) (section_in raw.sections k)
        ∙ taken.sections k _ here

    pub not_refused : end_of raw.header.phoff (32 * raw.header.phnum) ≤ length file → end_of raw.header.shoff (40 * raw.header.shnum) ≤ length file → elf_refusal file ≡ None
    not_refused segments_end sections_end =
        file_taken file raw same_header taken has.whole (tables_taken file raw same_header taken segments_end sections_end no_segment no_section)

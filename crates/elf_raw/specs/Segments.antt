-- The program header table (System V ABI, chapter 5, "Program Header": Elf32_Phdr).
use Rattle.std.specs.Prelude.{ℕ, ◌+◌, ◌*◌, List, map}
use Rattle.std.specs.List.{range_with_len}
use Rattle.ae_nums.specs.declared.span.Span64.{Span64}
use Rattle.elf_raw.specs.declared.segment.RawSegment.{RawSegment}
use Rattle.elf_raw.specs.declared.segment.TheConstants.{SEGMENT_SIZE}
use Rattle.elf_raw.specs.Header.{header_of}
use Rattle.elf_raw.specs.Numbers.{word_at}

-- the bytes of an entry
abbrev pub segment_size : ℕ
segment_size = SEGMENT_SIZE

-- where so many bytes from an offset stand
abbrev pub segment_span : (offset filesz : ℕ) → Span64
segment_span offset filesz = record { from = offset; to = offset + filesz }

-- where the entry with this number stands, counted from 0
abbrev pub segment_offset : List ℕ → ℕ → ℕ
segment_offset bytes number = (header_of bytes).phoff + segment_size * number

-- the entry that stands here; its bytes are those from its offset on, as many as its filesz says
abbrev pub segment_at : List ℕ → ℕ → RawSegment
segment_at bytes at =
    record {
      kind = word_at bytes at;
      offset = word_at bytes (at + 4);
      vaddr = word_at bytes (at + 8);
      paddr = word_at bytes (at + 12);
      filesz = word_at bytes (at + 16);
      memsz = word_at bytes (at + 20);
      flags = word_at bytes (at + 24);
      align = word_at bytes (at + 28);
      span = segment_span (word_at bytes (at + 4)) (word_at bytes (at + 16));
    }

-- the program header with this number
abbrev pub segment_of : List ℕ → ℕ → RawSegment
segment_of bytes number = segment_at bytes (segment_offset bytes number)

abbrev pub segments_of : List ℕ → List RawSegment
segments_of bytes = map (segment_of bytes) (range_with_len 0 (header_of bytes).phnum)

-- The program header that loads code, where none offends; and how much is loaded, by the program headers.
use Rattle.std.specs.Prelude.{◌≡◌, ℕ, ◌≤◌, ◌^◌, Bool, true, false, ◌&&◌, List, map, sum, nat_lt}
use Rattle.std.specs.List.{list_any, filter}
use Rattle.elf_raw.specs.declared.segment.RawSegment.{RawSegment}
use Rattle.elf_raw.specs.Refusal.{reaches_past}
use Rattle.elf_raw.specs.Segments.{segments_of}
use Rattle.rv_code.specs.Addresses.{tracer_start}
use Rattle.elf_image.specs.CodeWords.{code_load}
use Rattle.elf_image.specs.Loads.{is_load, is_code_load, load_end}

-- There is a program header that loads code, and it doesn't offend: it has no more bytes in the file than in memory, ends in
-- the address space, and its bytes stand in the file.
pub record HasCodeLoad (bytes : List ℕ) : Type 0 where
  pub there : list_any is_code_load (segments_of bytes) ≡ true
  pub filled : (code_load bytes).filesz ≤ (code_load bytes).memsz
  pub ends : load_end (code_load bytes) ≤ 2 ^ 32
  pub held : reaches_past bytes (code_load bytes).offset (code_load bytes).filesz ≡ false

-- it is loaded, and begins below the tracer's
abbrev pub is_mapped_load : RawSegment → Bool
is_mapped_load segment = is_load segment && nat_lt segment.vaddr tracer_start

-- the bytes in memory that are mapped below the tracer's
abbrev pub loaded_length : List RawSegment → ℕ
loaded_length segments = sum (map (λ (segment : RawSegment). segment.memsz) (filter is_mapped_load segments))

-- How many bytes the rows of the tables have.
use Rattle.std.proofs.Common.{◌≡◌, length, refl}
use Rattle.elf_raw.specs.declared.section.RawSection.{RawSection}
use Rattle.elf_raw.specs.declared.segment.RawSegment.{RawSegment}
use Rattle.elf_raw.specs.Written.{segment_bytes, section_bytes}

pub segment_bytes_length : (segment : RawSegment) → length (segment_bytes segment) ≡ 32
unfolding segment_bytes
segment_bytes_length segment = refl

pub section_bytes_length : (section : RawSection) → length (section_bytes section) ≡ 40
unfolding section_bytes
section_bytes_length section = refl

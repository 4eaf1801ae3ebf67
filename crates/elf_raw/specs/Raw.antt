-- The tables of a file.
use Rattle.std.specs.Prelude.{ℕ, List}
use Rattle.elf_raw.specs.declared.raw.RawElf.{RawElf}
use Rattle.elf_raw.specs.Header.{header_of}
use Rattle.elf_raw.specs.Segments.{segments_of}
use Rattle.elf_raw.specs.Sections.{sections_of}
use Rattle.elf_raw.specs.Symbols.{symbols_of}
use Rattle.elf_raw.specs.Relocations.{relocations_of}

abbrev pub raw_of : List ℕ → RawElf
raw_of bytes =
    record {
      header = header_of bytes;
      segments = segments_of bytes;
      sections = sections_of bytes;
      symbols = symbols_of bytes;
      relocations = relocations_of bytes;
    }

-- The ELF header, at the front of a file (System V ABI, chapter 4, "ELF Header": Elf32_Ehdr).
use Rattle.std.specs.Prelude.{ℕ, List, take}
use Rattle.elf_raw.specs.declared.header.RawHeader.{RawHeader}
use Rattle.elf_raw.specs.declared.header.TheConstants.{HEADER_SIZE}
use Rattle.elf_raw.specs.Numbers.{half_at, word_at}

abbrev pub header_size : ℕ
header_size = HEADER_SIZE

abbrev pub header_of : List ℕ → RawHeader
header_of bytes =
    record {
      ident = take 16 bytes;
      kind = half_at bytes 16;
      machine = half_at bytes 18;
      version = word_at bytes 20;
      entry = word_at bytes 24;
      phoff = word_at bytes 28;
      shoff = word_at bytes 32;
      flags = word_at bytes 36;
      ehsize = half_at bytes 40;
      phentsize = half_at bytes 42;
      phnum = half_at bytes 44;
      shentsize = half_at bytes 46;
      shnum = half_at bytes 48;
      shstrndx = half_at bytes 50;
    }

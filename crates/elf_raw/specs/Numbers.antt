-- Numbers at offsets of a file, the lowest byte first (System V ABI, chapter 4: ELFDATA2LSB).
use Rattle.std.specs.Prelude.{ℕ, List}
use Rattle.byteorder.specs.Endian.{little_from}

-- an Elf32_Half
abbrev pub half_at : List ℕ → ℕ → ℕ
half_at bytes offset = little_from offset 2 bytes

-- an Elf32_Word, Elf32_Addr or Elf32_Off
abbrev pub word_at : List ℕ → ℕ → ℕ
word_at bytes offset = little_from offset 4 bytes

-- Code words that no store changes, decoded, and what a machine keeps of them.
use Rattle.std.specs.Prelude.{◌≡◌, All, ℕ, ◌+◌, ◌*◌, ◌<◌, true, false, List, length, Option, None, Some, if◌then◌else◌, slice_index_or}
use Rattle.std.specs.List.{AllByRecursion}
use Rattle.std.specs.Option.{option_map}
use Rattle.rv_code.specs.declared.extent.Extent.{Extent}
use Rattle.rv_code.specs.declared.instr.Instr.{Instr}
use Rattle.rv_code.specs.declared.instr.Instr.TheVariants.{Ecall}
use Rattle.rv_code.specs.Code.{is_code, is_word_of}
use Rattle.rv_code.specs.Numbers.{wrap, number_of}
use Rattle.rv_code.specs.Parts.{HasRegisters}
use Rattle.rv_code.specs.Table.{meaning_of}
use Rattle.rv_memory.specs.Memory.{Cell, is_writable, span, bytes_at}
use Rattle.rv_memory.specs.Stretches.{Mapping}
use Rattle.rv_machine.specs.declared.table.Table.{Table}

-- the word that memory has at an address, where a code word stands there
abbrev pub word_in_memory : List Extent → List Cell → ℕ → Option ℕ
word_in_memory code memory address = if is_code code address then Some (number_of (bytes_at memory (span address 4))) else None

-- what that word means
abbrev pub decoded_at : List Extent → List Cell → ℕ → Option Instr
decoded_at code memory address = option_map meaning_of (word_in_memory code memory address)

-- An instruction is that of the code word at an address.
pub record IsInstr (code : List Extent) (memory : List Cell) (address : ℕ) (instr : Instr) : Type 0 where
  pub meaning : Some instr ≡ decoded_at code memory address
  pub registers : HasRegisters instr

-- none of these addresses can be written
abbrev pub AreFixed : List Cell → List ℕ → Type 0
AreFixed memory addresses = AllByRecursion (λ byte. is_writable memory byte ≡ false) addresses

-- So it is, and no store changes that word.
pub record Means (code : List Extent) (memory : List Cell) (address : ℕ) (instr : Instr) : Type 0 where
  pub fixed : AreFixed memory (span address 4)
  pub is : IsInstr code memory address instr

-- instructions from an address on, one each fourth address
abbrev pub AreDecodedRows : List Extent → List Cell → (start : ℕ) → List Instr → Type 0
AreDecodedRows code memory start instrs =
    (place : ℕ) → place < length instrs → Means code memory (wrap (start + 4 * place)) (slice_index_or instrs place Ecall)

-- a table of code words that no store changes
pub record IsTable (code : List Extent) (memory : List Cell) (table : Table) : Type 0 where
  pub rows : AreDecodedRows code memory table.start table.instrs.items

-- the table that the last fetch was in, and the others
abbrev pub AreTables : List Extent → List Cell → (near : Table) → (others : List Table) → Type 0
AreTables code memory near others = IsTable code memory near × All (λ table. IsTable code memory table) others

-- the words of an extent are code words
abbrev pub HasWordsOf : List Extent → Extent → Type 0
HasWordsOf code extent = (address : ℕ) → is_word_of extent address ≡ true → is_code code address ≡ true

-- what is loaded: where code words stand, and what is mapped
pub record Contents : Type 0 where
  pub code : List Extent
  pub memory : Mapping

-- Laws of memory, in the words of the contracts of `read`, `write` and `put`.
use Rattle.std.specs.Prelude.{◌≡◌, ◌≢◌, ℕ, ◌+◌, ◌-◌, ◌%◌, ◌^◌, ◌≤◌, List, length, slice_index, nat_lt, None, Ok, if◌then◌else◌}
use Rattle.std.specs.List.{AllByRecursion}
use Rattle.rv_code.specs.Numbers.{IsWord, wrap, bytes_of}
use Rattle.rv_memory.specs.Memory.{Cell, cell_at, byte_at, span, bytes_at, first_hole, first_shut, written}
use Rattle.rv_memory.specs.Answers.{read_at}

-- how far an address lies behind another, modulo 2^32
abbrev pub distance : (start address : ℕ) → ℕ
distance start address = wrap (address + 2 ^ 32 - start)

-- the byte at an address after bytes were put from a start on: the one that was put there, or else the one from before
abbrev pub byte_after : List Cell → (start : ℕ) → (bytes : List ℕ) → (address : ℕ) → ℕ
byte_after memory start bytes address =
    if nat_lt (distance start address) (length bytes) then slice_index bytes (distance start address) else byte_at memory address

-- Bytes that were put from a start on are read back, other bytes are as before, and so is what can be read and written.
pub record ReadsLastWritten (memory : List Cell) (start : ℕ) (bytes : List ℕ) (next : List Cell) : Type 0 where
  pub same : bytes_at next (span start (length bytes)) ≡ bytes
  -- so it is of each byte of a read, however it lies to what was written
  pub each : (address : ℕ) → IsWord address → byte_at next address ≡ byte_after memory start bytes address
  pub holes : (addresses : List ℕ) → first_hole next addresses ≡ first_hole memory addresses
  pub shuts : (addresses : List ℕ) → first_shut next addresses ≡ first_shut memory addresses

-- Reads give what was last written, whatever the number of bytes, and wherever they lie.
abbrev pub ReadsFollowWrites : Type 0
ReadsFollowWrites =
    (memory : List Cell) (start : ℕ) (bytes : List ℕ)
    → IsWord start
    → length bytes ≤ 2 ^ 32
    → first_shut memory (span start (length bytes)) ≡ None
    → ReadsLastWritten memory start bytes (written memory (span start (length bytes)) bytes)

-- What a write of a number puts is read as this number, modulo 2^8 for each byte.
abbrev pub NumbersComeBack : Type 0
NumbersComeBack =
    (memory : List Cell) (address size number : ℕ)
    → IsWord address
    → size ≤ 2 ^ 32
    → first_shut memory (span address size) ≡ None
    → read_at (written memory (span address size) (bytes_of size number)) address size ≡ Ok (number % 256 ^ size)

-- Bytes put at addresses change no cell of another address.
abbrev pub KeepsOtherCells : Type 0
KeepsOtherCells =
    (memory : List Cell) (addresses bytes : List ℕ) (other : ℕ)
    → AllByRecursion (λ address. address ≢ other) addresses
    → cell_at (written memory addresses bytes) other ≡ cell_at memory other

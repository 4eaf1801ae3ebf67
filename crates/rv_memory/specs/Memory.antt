-- Memory as a list of cells, one for each mapped byte, and accesses over lists of addresses. An access of some bytes is
-- carried out byte by byte, also where it isn't aligned and where it goes round the end of the address space: the manual
-- leaves what isn't aligned to the environment (section 2.6), and this is this project's own.
use Rattle.std.specs.Prelude.{ℕ, zero, suc, ◌+◌, Bool, false, not, ◌≤◌, List, [], ◌∷◌, map, ⊤, Option, None, Some, is_some, if◌then◌else◌, ◌==◌}
use Rattle.std.specs.List.{find}
use Rattle.rv_code.specs.Numbers.{wrap}

-- a mapped byte; each can be read
pub record Cell : Type 0 where
  pub address : ℕ
  pub byte : ℕ
  pub writable : Bool

-- the cell of this address: the first, and in a machine's memory the only one
abbrev pub cell_at : List Cell → ℕ → Option Cell
cell_at [] address = None
cell_at (cell ∷ cells) address = if cell.address == address then Some cell else cell_at cells address

abbrev pub is_mapped : List Cell → ℕ → Bool
is_mapped memory address = is_some (cell_at memory address)

-- mapped and writable
abbrev pub is_writable_cell : Option Cell → Bool
is_writable_cell None = false
is_writable_cell (Some cell) = cell.writable

abbrev pub is_writable : List Cell → ℕ → Bool
is_writable memory address = is_writable_cell (cell_at memory address)

-- whether a byte is mapped at an address, and then whether it can be written
abbrev pub permission_of : Option Cell → Option Bool
permission_of None = None
permission_of (Some cell) = Some cell.writable

abbrev pub permission_at : List Cell → ℕ → Option Bool
permission_at memory address = permission_of (cell_at memory address)

-- the byte of a cell, 0 where there is none
abbrev pub byte_of_cell : Option Cell → ℕ
byte_of_cell None = 0
byte_of_cell (Some cell) = cell.byte

abbrev pub byte_at : List Cell → ℕ → ℕ
byte_at memory address = byte_of_cell (cell_at memory address)

-- so many addresses from this one on, modulo 2^32
abbrev pub span : ℕ → ℕ → List ℕ
span address zero = []
span address (suc count) = address ∷ span (wrap (address + 1)) count

-- the bytes at these addresses
abbrev pub bytes_at : List Cell → List ℕ → List ℕ
bytes_at memory addresses = map (λ address. byte_at memory address) addresses

-- the first of these addresses that isn't mapped
abbrev pub first_hole : List Cell → List ℕ → Option ℕ
first_hole memory addresses = find (λ address. not (is_mapped memory address)) addresses

-- the first of these addresses that isn't mapped writable
abbrev pub first_shut : List Cell → List ℕ → Option ℕ
first_shut memory addresses = find (λ address. not (is_writable memory address)) addresses

-- one byte put at an address; a cell keeps its address and whether it is writable
abbrev pub with_byte : ℕ → ℕ → Cell → Cell
with_byte address byte cell =
    record { address = cell.address; byte = if cell.address == address then byte else cell.byte; writable = cell.writable }

-- bytes put at addresses, the first at the first
abbrev pub written : List Cell → List ℕ → List ℕ → List Cell
written memory [] bytes = memory
written memory (address ∷ addresses) [] = memory
written memory (address ∷ addresses) (byte ∷ bytes) = written (map (with_byte address byte) memory) addresses bytes

-- cells from this address on, each behind the one before: so no address has two
abbrev pub Rise : ℕ → List Cell → Type 0
Rise low [] = ⊤
Rise low (cell ∷ cells) = (low ≤ cell.address) × Rise (suc cell.address) cells

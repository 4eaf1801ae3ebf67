-- What the index of the zeros says.
use Rattle.std.proofs.Common.{◌≡◌, ℕ, ◌+◌, ◌-◌, ◌*◌, ◌/◌, ◌<◌, ◌≤◌, List, length, take, drop, get_or, ap, ◌∙◌, arith}
use Rattle.std.proofs.lemmas.List.FromFn.{length-map-range_with_len, get_or-map-range_with_len}
use Rattle.elf_raw.specs.Inner.Zeros.{zero_place, next_zero, zero_of_block, zeros_of}
use Rattle.elf_raw.proofs.NextZero.{place_in_take, next_from}

pub index_length : (index bytes : List ℕ) → index ≡ zeros_of bytes → length index ≡ length bytes / 64 + 1
index_length index bytes is = ap length is ∙ length-map-range_with_len (zero_of_block bytes) 0 (length bytes / 64 + 1)

pub index_entry : (index bytes : List ℕ) (block : ℕ) → index ≡ zeros_of bytes → block < length index → get_or index block 0 ≡ next_zero bytes (64 * block)
index_entry index bytes block is within =
    let long : length index ≡ length bytes / 64 + 1 = index_length index bytes is in
    ap (λ (xs : List ℕ). get_or xs block 0) is
    ∙ get_or-map-range_with_len (zero_of_block bytes) 0 (length bytes / 64 + 1) block block 0 (omega arith) (omega arith)

-- a block that has an entry begins within the file
pub block_within : (index bytes : List ℕ) (block : ℕ) → index ≡ zeros_of bytes → block < length index → 64 * block ≤ length bytes
block_within index bytes block is within =
    let long : length index ≡ length bytes / 64 + 1 = index_length index bytes is in
    omega arith

-- the next zero where it stands before the block's end
pub in_block : (bytes : List ℕ) (from end place : ℕ) → from ≤ end → place ≡ from + zero_place (take (end - from) (drop from bytes)) → place < end → place ≡ next_zero bytes from
in_block bytes from end place order is before = omega (arith, place_in_take (end - from) (drop from bytes))

-- and where it doesn't
pub behind_block : (bytes : List ℕ) (from end place : ℕ) → from ≤ end → place ≡ from + zero_place (take (end - from) (drop from bytes)) → end ≤ place → next_zero bytes end ≡ next_zero bytes from
behind_block bytes from end place order is behind = next_from bytes from end order (omega (arith, place_in_take (end - from) (drop from bytes)))

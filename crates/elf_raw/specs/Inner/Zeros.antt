-- The next zero byte of a file, and the index of it: the answer at each block of 64 bytes.
use Rattle.std.specs.Prelude.{ℕ, suc, ◌+◌, ◌*◌, ◌/◌, List, [], ◌∷◌, map, drop, length, ◌==◌, if◌then◌else◌}
use Rattle.std.specs.List.{range_with_len}

-- so many bytes stand before the first zero; all of them where there is none
abbrev pub zero_place : List ℕ → ℕ
zero_place [] = 0
zero_place (byte ∷ bytes) = if byte == 0 then 0 else suc (zero_place bytes)

-- where the first zero stands that isn't before this place; the length where there is none
abbrev pub next_zero : List ℕ → ℕ → ℕ
next_zero bytes from = from + zero_place (drop from bytes)

-- where the first zero stands that isn't before the block with this number
abbrev pub zero_of_block : List ℕ → ℕ → ℕ
zero_of_block bytes block = next_zero bytes (64 * block)

-- for each block, the last of which may be cut short or empty
abbrev pub zeros_of : List ℕ → List ℕ
zeros_of bytes = map (zero_of_block bytes) (range_with_len 0 (length bytes / 64 + 1))

-- Sets of registers as masks: bit k is set where x(k) is one of the set. x0 is in none, since it always reads 0.
use Rattle.std.specs.Prelude.{◌≡◌, ◌==◌, ℕ, ◌%◌, ◌^◌, ◌<◌, List, filter}
use Rattle.std.specs.Int.{bit_at}
use Rattle.std.specs.List.{range_with_len}

-- the registers of a mask, in order
unfoldable pub registers_of : (mask : ℕ) → List ℕ
registers_of mask = filter (λ register. bit_at mask register == 1) (range_with_len 1 31)

pub record IsMask (mask : ℕ) : Type 0 where
  pub word : mask < 2 ^ 32
  pub zero : mask % 2 ≡ 0

-- The registers of a mask are those that there are.
use Rattle.std.proofs.Common.{ℕ, zero, suc, ◌+◌, ◌<◌, ◌≤◌, Bool, true, false, cond, List, ◌∷◌, eqb, arith}
use Rattle.std.specs.Int.{bit_at}
use Rattle.std.specs.List.{AllByRecursion, range_with_len}
use Rattle.ae_nums.specs.Registers.{registers_of}
use Rattle.std.specs.Prelude.{filter}

low_kept : (b : Bool) (register : ℕ) (registers : List ℕ) → register < 32 → AllByRecursion (λ (r : ℕ). r < 32) registers → AllByRecursion (λ (r : ℕ). r < 32) (cond b (register ∷ registers) registers)
low_kept true register registers low rest = (low, rest)
low_kept false register registers low rest = rest

low_rows : (p : ℕ → Bool) (from count : ℕ) → from + count ≤ 32 → AllByRecursion (λ (r : ℕ). r < 32) (filter p (range_with_len from count))
low_rows p from zero within = tt
low_rows p from (suc count) within = low_kept (p from) from (filter p (range_with_len (from + 1) count)) (omega arith) (low_rows p (from + 1) count (omega arith))

pub registers_low : (mask : ℕ) → AllByRecursion (λ (r : ℕ). r < 32) (registers_of mask)
unfolding registers_of
registers_low mask = low_rows (λ register. eqb (bit_at mask register) 1) 1 31 (omega arith)

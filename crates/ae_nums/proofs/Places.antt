-- How a number's decimal digits are written into the end of a room, the last digit first.
use Rattle.std.proofs.Common.{◌≡◌, ℕ, zero, suc, add-one, ◌+◌, ◌-◌, ◌*◌, ◌/◌, ◌%◌, ◌^◌, ◌<◌, ◌≤◌, List, [], ◌∷◌, ◌++◌, length, take, drop, slice_set, arith, append_assoc}
use Rattle.std.proofs.Math.Nat.{pow-suc}
use Rattle.std.proofs.lemmas.List.{drop-set, take_all, length-drop, length-set}
use Rattle.std.proofs.lemmas.Fmt.{decimal_digit, decimal_step}
use Rattle.std.specs.Fmt.{decimal}
use Rattle.ae_nums.specs.Decimal.{decimal_text}

-- one more digit is written
pub decimal_more : (rest from : ℕ) (digits text : List ℕ) → 10 ≤ rest → rest < 2 ^ 64 → from < length digits → decimal_text rest ++ drop (from + 1) digits ≡ text → decimal_text (rest / 10) ++ drop from (slice_set digits from (48 + rest % 10)) ≡ text
decimal_more rest from digits text many small inside so_far =
    rw (drop-set digits from (48 + rest % 10) inside) (rw (← append_assoc (decimal (rest / 10)) ((48 + rest % 10) ∷ []) (drop (from + 1) digits)) (rw (← decimal_step rest many small) so_far))

-- the first digit is written
pub decimal_all : (rest from : ℕ) (digits text : List ℕ) → rest < 10 → length digits ≡ 20 → from ≤ 19 → decimal_text rest ++ drop (from + 1) digits ≡ text → take (20 - from) (drop from (slice_set digits from (48 + rest))) ≡ text
decimal_all rest from digits text one room inside so_far =
    let below : from < length digits = omega arith in
    let long : length (drop from (slice_set digits from (48 + rest))) ≤ 20 - from = simp (length-drop, length-set) (omega arith) in
    rw (take_all (20 - from) (drop from (slice_set digits from (48 + rest))) long) (rw (drop-set digits from (48 + rest) below) (rw (decimal_digit rest one) at so_far))

-- a number of two digits or more doesn't fit one place
one_place : (rest from : ℕ) → 10 ≤ rest → rest < 10 ^ (from + 1) → 0 < from
one_place rest zero many small = omega arith
one_place rest (suc from) many small = omega arith

-- so a place is left before its last digit
pub place_left : (rest from : ℕ) → 10 ≤ rest → rest < 10 ^ (from + 1) → (0 < from) × (rest / 10 < 10 ^ from)
place_left rest from many small =
    let less : rest < 10 ^ from * 10 = rw (add-one, pow-suc) at small in (one_place rest from many small, omega arith)

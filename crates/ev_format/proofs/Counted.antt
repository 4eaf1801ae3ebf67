-- How many values a landing has, and how many bytes.
use Rattle.std.proofs.Common.{◌≡◌, ℕ, zero, suc, pow-suc, ◌+◌, ◌*◌, ◌/◌, ◌%◌, ◌^◌, ◌<◌, ◌≤◌, List, length, true, false, eqb, inl, inr, Option, Some, sym, ap, ◌∙◌, subst, arith}
use Rattle.std.specs.Prelude.{IfSome, filter}
use Rattle.std.specs.Int.{bit_at}
use Rattle.std.specs.List.{range_with_len}
use Rattle.std.proofs.lemmas.Bool.{cases_eq, eq-eqb, ne_eqb}
use Rattle.std.proofs.lemmas.Nat.{ones-le, ones_cat, ones_le_self, zero_from_ones, shr-shr}
use lib.Count.{ones}
use Rattle.rv_code.proofs.LawsOfBytes.{length-words}
use Rattle.ae_nums.specs.Registers.{registers_of}
use Rattle.ev_format.specs.declared.record.Record.{Record}
use Rattle.ev_format.specs.declared.record.Record.TheVariants.{Landing}
use Rattle.ev_format.specs.Shapes.{ShapeView, IsShape}
use Rattle.ev_format.specs.Spelling.{record_bytes}

one_bit : ones 1 ≡ 1
one_bit = elim (cases_eq (ones 1) 0) [
  | inl none ↦ absurd (omega (arith, zero_from_ones 1 none))
  | inr some ↦ omega (arith, ones_le_self 1, some)
]

no_bit : ones 0 ≡ 0
no_bit = omega (arith, ones_le_self 0)

-- a number has the bits of its half and its lowest
ones-halved : (n : ℕ) → ones n ≡ ones (n / 2) + ones (n % 2)
ones-halved n =
    let halves : n / 2 * 2 ^ 1 + n % 2 ≡ n = omega arith in
    let all : ones (n / 2 * 2 ^ 1 + n % 2) ≡ ones (n / 2) + ones (n % 2) = ones_cat 1 (n / 2) (n % 2) (omega arith) in
    sym (ap ones halves) ∙ all

-- the numbers of a range whose bits are set, where no bit above the range is
length-set_bits : (n from count : ℕ) → n / 2 ^ from < 2 ^ count → length (filter (λ k. eqb (bit_at n k) 1) (range_with_len from count)) ≡ ones (n / 2 ^ from)
length-set_bits n from zero small = omega (arith, ones-le 0 (n / 2 ^ from) small)
length-set_bits n from (suc count) small =
    let next : n / 2 ^ from / 2 ^ 1 ≡ n / 2 ^ (from + 1) = shr-shr n from 1 in
    let halved : n / 2 ^ from / 2 ≡ n / 2 ^ (from + 1) = next in
    let double : 2 ^ suc count ≡ 2 ^ count * 2 = pow-suc 2 count in
    let smaller : n / 2 ^ (from + 1) < 2 ^ count = omega (arith, halved, double, small) in
    let rest = length-set_bits n (from + 1) count smaller in
    let here = ones-halved (n / 2 ^ from) in
    elim (cases_eq (n / 2 ^ from % 2) 1) [
      | inl set ↦
          let kept : eqb (bit_at n from) 1 ≡ true = eq-eqb (bit_at n from) 1 set in
          rw kept (omega (arith, rest, here, ap ones halved, ap ones set, one_bit))
      | inr clear ↦
          let even : n / 2 ^ from % 2 ≡ 0 = omega (arith, clear) in
          let left : eqb (bit_at n from) 1 ≡ false = ne_eqb (bit_at n from) 1 clear in
          rw left (omega (arith, rest, here, ap ones halved, ap ones even, no_bit))
    ]

-- a mask without bit 0 has as many registers as bits
pub length-registers_of : (mask : ℕ) → mask < 2 ^ 32 → mask % 2 ≡ 0 → length (registers_of mask) ≡ ones mask
unfolding registers_of
length-registers_of mask small even =
    let high : mask / 2 ^ 1 < 2 ^ 31 = omega arith in
    omega (arith, length-set_bits mask 1 31 high, ones-halved mask, ap ones even, no_bit)

pub few_registers : (mask : ℕ) → mask < 2 ^ 32 → mask % 2 ≡ 0 → ones mask ≤ 31
few_registers mask small even = omega (arith, ones-halved mask, ap ones even, no_bit, ones-le 31 (mask / 2) (omega arith))

pub mask_is_even : (shape : ShapeView) (target mask : ℕ) → IsShape shape → Some mask ≡ shape.needs target → mask % 2 ≡ 0
mask_is_even shape target mask is needs =
    let Even : Option ℕ → Type 0 = λ found. IfSome found (λ m. m % 2 ≡ 0) in subst Even (sym needs) (is.clear target)

pub length-landing_bytes : (rec : Record) (at target : ℕ) (values : List ℕ) → rec ≡ Landing at target values → length (record_bytes rec) ≡ 8 + 4 * length values
length-landing_bytes rec at target values is =
    let whole : length (record_bytes (Landing at target values)) ≡ 8 + 4 * length values = omega (arith, length-words values) in
    ap (λ (r : Record). length (record_bytes r)) is ∙ whole

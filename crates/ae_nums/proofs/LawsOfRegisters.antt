-- Masks and their registers: a register is one of a mask where its bit is set, and a mask is made again of its registers.
use Rattle.std.proofs.Common.{◌≡◌, ℕ, zero, suc, ◌+◌, ◌*◌, ◌%◌, ◌^◌, ◌<◌, ◌≤◌, Bool, true, false, cond, eqb, ◌&&◌, [], ◌∷◌, refl, sym, ap, ◌∙◌, inl, inr, arith}
use Rattle.std.specs.Prelude.{bit_and, filter}
use Rattle.std.specs.Int.{bit_at, bit_not, trailing_zeros, w32}
use Rattle.std.specs.List.{list_any, range_with_len}
use Rattle.std.proofs.lemmas.Bool.{cases_eq, cases_lt, eq-eqb, eqb-true, ne_eqb, and_right}
use Rattle.std.proofs.lemmas.Map.Views.{any-filter_same}
use Rattle.std.proofs.lemmas.Nat.Bits.{bit_at-lt, bit_at_lowest, bit_at_and, bit_at_mask_inside, bit_at_above, bit_at-trailing_zeros, bit_at_clear_same, bit_at_clear_other, same_from_bits}
use Rattle.rv_code.specs.Parts.{mask_of}
use Rattle.rv_code.proofs.LawsOfMasks.{bit_of-mask_of, lowest_of-mask_of}
use Rattle.ae_nums.specs.Registers.{registers_of, IsMask}

-- two tests that agree at each number of a range keep the same numbers
range_agree : (p q : ℕ → Bool) (from count : ℕ) → ((k : ℕ) → from ≤ k → k < from + count → p k ≡ q k)
    → filter p (range_with_len from count) ≡ filter q (range_with_len from count)
range_agree p q from zero agree = refl
range_agree p q from (suc count) agree =
    let here : p from ≡ q from = agree from (omega arith) (omega arith) in
    let rest : filter p (range_with_len (from + 1) count) ≡ filter q (range_with_len (from + 1) count) =
    range_agree p q (from + 1) count (λ k above below. agree k (omega arith) (omega arith))
    in
    (λ i. cond (here i) (from ∷ rest i) (rest i))

-- The first number of a range that a test keeps, and what is kept by a test that differs at this number alone.
range_first : (p q : ℕ → Bool) (from count first : ℕ) → from ≤ first → first < from + count
    → p first ≡ true → q first ≡ false → ((k : ℕ) → from ≤ k → k < first → p k ≡ false)
    → ((k : ℕ) → from ≤ k → k < from + count → (k ≡ first → ⊥) → p k ≡ q k)
    → filter p (range_with_len from count) ≡ first ∷ filter q (range_with_len from count)
range_first p q from zero first above below is isnt none agree = absurd (omega arith)
range_first p q from (suc count) first above below is isnt none agree = elim (cases_eq from first) [
  | inl same ↦
      let kept : p from ≡ true = ap p same ∙ is in
      let left : q from ≡ false = ap q same ∙ isnt in
      let rest : filter p (range_with_len (from + 1) count) ≡ filter q (range_with_len (from + 1) count) =
      range_agree p q (from + 1) count (λ k more less. agree k (omega arith) (omega arith) (λ other. omega arith))
      in
      rw (kept, left) (λ i. same i ∷ rest i)
  | inr other ↦
      let more : from + 1 ≤ first = elim (cases_lt from first) [ inl less ↦ omega arith | inr not_less ↦ absurd (other (omega arith)) ] in
      let drops : p from ≡ false = none from (omega arith) (omega arith) in
      let drops_too : q from ≡ false = sym (agree from (omega arith) (omega arith) other) ∙ drops in
      rw (drops, drops_too)
      (range_first p q (from + 1) count first more (omega arith) is isnt (λ k high low. none k (omega arith) low)
      (λ k high low differs. agree k (omega arith) (omega arith) differs))
]

-- the test of a register's bit
is_set : (mask k : ℕ) → bit_at mask k ≡ 1 → eqb (bit_at mask k) 1 ≡ true
is_set mask k is = eq-eqb (bit_at mask k) 1 is

is_clear : (mask k : ℕ) → bit_at mask k ≡ 0 → eqb (bit_at mask k) 1 ≡ false
is_clear mask k is = ne_eqb (bit_at mask k) 1 (λ set. omega arith)

-- masks that have the same bits from 1 to 31
pub registers_of-same : (mask other : ℕ) → ((k : ℕ) → 1 ≤ k → k < 32 → bit_at mask k ≡ bit_at other k) → registers_of mask ≡ registers_of other
unfolding registers_of
registers_of-same mask other same =
    range_agree (λ register. eqb (bit_at mask register) 1) (λ register. eqb (bit_at other register) 1) 1 31
    (λ k above below. ap (λ bit. eqb bit 1) (same k above (omega arith)))

-- x0 is no register of a mask
pub registers_of-even : (mask : ℕ) → registers_of (bit_and mask 4294967294) ≡ registers_of mask
registers_of-even mask = registers_of-same (bit_and mask 4294967294) mask (λ k above below.
    let one : bit_at 4294967294 k ≡ 1 = bit_at_mask_inside 1 32 k above below in
    bit_at_and mask 4294967294 k ∙ omega (arith, one, bit_at-lt mask k))

-- without the lowest bit the first register is gone
pub registers_of-first : (left : ℕ) → left < 2 ^ 32 → left % 2 ≡ 0 → 0 < left
    → registers_of left ≡ trailing_zeros w32 left ∷ registers_of (bit_and left (bit_not w32 (1 * 2 ^ trailing_zeros w32 left % 2 ^ 32)))
unfolding registers_of
registers_of-first left word even some =
    let (within, set, below) = bit_at-trailing_zeros w32 left some word in
    let first : ℕ = trailing_zeros w32 left in
    let next : ℕ = bit_and left (bit_not w32 (1 * 2 ^ first % 2 ^ 32)) in
    let low : 1 ≤ first = elim (cases_eq first 0) [ inl none ↦ absurd (omega (arith, set, bit_at_lowest left, ap (bit_at left) none)) | inr some ↦ omega arith ] in
    range_first (λ register. eqb (bit_at left register) 1) (λ register. eqb (bit_at next register) 1) 1 31 first low (omega (arith, within))
    (is_set left first set)
    (is_clear next first (bit_at_clear_same w32 left first within))
    (λ k above less. is_clear left k (below k less))
    (λ k above less other. ap (λ bit. eqb bit 1) (sym (bit_at_clear_other w32 left first within k (omega arith) other)))

-- what is left of a mask without x0 is one
pub rest_is_even : (left other : ℕ) → left % 2 ≡ 0 → bit_and left other % 2 ≡ 0
rest_is_even left other even =
    sym (bit_at_lowest (bit_and left other)) ∙ (bit_at_and left other 0 ∙ omega (arith, bit_at_lowest left))

-- a mask without bits has no registers
pub registers_of-none : registers_of 0 ≡ []
unfolding registers_of
registers_of-none = refl

-- a test of a number within a range holds of one of the range's numbers
range_any : (from count k : ℕ) → from ≤ k → k < from + count → list_any (λ x. eqb x k) (range_with_len from count) ≡ true
range_any from zero k above below = absurd (omega arith)
range_any from (suc count) k above below = elim (cases_eq from k) [
  | inl same ↦ rw (eq-eqb from k same)
  | inr other ↦
      let more : from + 1 ≤ k = elim (cases_lt from k) [ inl less ↦ omega arith | inr not_less ↦ absurd (other (omega arith)) ] in
      rw (ne_eqb from k other) (range_any (from + 1) count k more (omega arith))
]

range_none : (from count k : ℕ) → from + count ≤ k → list_any (λ x. eqb x k) (range_with_len from count) ≡ false
range_none from zero k above = refl
range_none from (suc count) k above = rw (ne_eqb from k (λ same. omega arith)) (range_none (from + 1) count k (omega arith))

one_or_none : (bit : ℕ) → bit < 2 → cond (eqb bit 1) 1 0 ≡ bit
one_or_none zero below = refl
one_or_none (suc zero) below = refl
one_or_none (suc (suc bit)) below = absurd (omega arith)

any_kept : (mask k : ℕ) → list_any (λ x. eqb x (suc k)) (filter (λ register. eqb (bit_at mask register) 1) (range_with_len 1 31))
    ≡ (eqb (bit_at mask (suc k)) 1 && list_any (λ x. eqb x (suc k)) (range_with_len 1 31))
any_kept mask k =
    any-filter_same (λ x. eqb x (suc k)) (λ register. eqb (bit_at mask register) 1) (eqb (bit_at mask (suc k)) 1)
    (λ register same. ap (λ n. eqb (bit_at mask n) 1) (eqb-true register (suc k) same)) (range_with_len 1 31)

and_true : (b : Bool) → (b && true) ≡ b
and_true true = refl
and_true false = refl

-- a mask is made again of its registers
pub mask_of-registers_of : (mask : ℕ) → IsMask mask → mask_of (registers_of mask) ≡ mask
unfolding registers_of
mask_of-registers_of mask is = same_from_bits (mask_of (registers_of mask)) mask each
  where
    later : (k : ℕ) → bit_at (mask_of (registers_of mask)) (suc k) ≡ bit_at mask (suc k)
    later k = elim (cases_lt (suc k) 32) [
      | inl below ↦
          bit_of-mask_of (registers_of mask) k
          ∙ ap (λ b. cond b 1 0) (any_kept mask k ∙ ap (λ b. eqb (bit_at mask (suc k)) 1 && b) (range_any 1 31 (suc k) (omega arith) (omega arith)) ∙ and_true (eqb (bit_at mask (suc k)) 1))
          ∙ one_or_none (bit_at mask (suc k)) (bit_at-lt mask (suc k))
      | inr above ↦
          bit_of-mask_of (registers_of mask) k
          ∙ ap (λ b. cond b 1 0) (any_kept mask k ∙ ap (λ b. eqb (bit_at mask (suc k)) 1 && b) (range_none 1 31 (suc k) (omega arith)) ∙ and_right (eqb (bit_at mask (suc k)) 1) false refl)
          ∙ sym (bit_at_above mask 32 (suc k) is.word above)
    ]

    each : (k : ℕ) → bit_at (mask_of (registers_of mask)) k ≡ bit_at mask k
    each zero = lowest_of-mask_of (registers_of mask) ∙ sym (bit_at_lowest mask ∙ is.zero)
    each (suc k) = later k

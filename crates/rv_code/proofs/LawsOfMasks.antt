-- The bits of masks that are made of registers.
use Rattle.std.proofs.Common.{◌≡◌, ℕ, zero, suc, ◌*◌, ◌%◌, ◌^◌, ◌<◌, cond, eqb, List, [], ◌∷◌, sym, ap, subst, ◌∙◌, inl, inr, arith, one-mul, mod-eq_of_lt}
use Rattle.std.specs.Int.{bit_at}
use Rattle.std.specs.Int.Bits.{or_zero_r}
use Rattle.std.specs.List.{list_any}
use Rattle.std.proofs.lemmas.Bool.{cases_eq, eq-eqb, ne_eqb}
use Rattle.std.proofs.lemmas.Nat.Bits.{bit_at-lt, bit_at-zero, bit_at_or, bit_at-pow_same, bit_at-pow_other}
use Rattle.std.proofs.Math.Pow.{pow-lt}
use Rattle.rv_code.specs.Parts.{mask_of}

-- the bit of a register but x0 says whether it is one of them
pub bit_of-mask_of : (registers : List ℕ) (k : ℕ) → bit_at (mask_of registers) (suc k) ≡ cond (list_any (λ x. eqb x (suc k)) registers) 1 0
bit_of-mask_of [] k = bit_at-zero (suc k)
bit_of-mask_of (zero ∷ registers) k = rw (ne_eqb zero (suc k) (λ same. omega arith)) (bit_of-mask_of registers k)
bit_of-mask_of (suc register ∷ registers) k =
    let rest = bit_of-mask_of registers k in
    let both = bit_at_or (2 ^ suc register) (mask_of registers) (suc k) in
    elim (cases_eq (suc register) (suc k)) [
      | inl same ↦
          let set : bit_at (2 ^ suc register) (suc k) ≡ 1 = subst (λ (n : ℕ). bit_at (2 ^ suc register) n ≡ 1) same (bit_at-pow_same (suc register)) in
          rw (eq-eqb (suc register) (suc k) same) (both ∙ omega (arith, set, bit_at-lt (mask_of registers) (suc k)))
      | inr other ↦
          let clear : bit_at (2 ^ suc register) (suc k) ≡ 0 = bit_at-pow_other (suc register) (suc k) (λ same. other (sym same)) in
          rw (ne_eqb (suc register) (suc k) other) (both ∙ omega (arith, clear, rest) ∙ rest)
    ]

-- the bit of x0 is clear
pub lowest_of-mask_of : (registers : List ℕ) → bit_at (mask_of registers) 0 ≡ 0
lowest_of-mask_of [] = bit_at-zero 0
lowest_of-mask_of (zero ∷ registers) = lowest_of-mask_of registers
lowest_of-mask_of (suc register ∷ registers) =
    bit_at_or (2 ^ suc register) (mask_of registers) 0
    ∙ omega (arith, bit_at-pow_other (suc register) 0 (λ same. omega arith), lowest_of-mask_of registers)

-- the bit of one register, as a shift computes it
pub shifted-mask_of : (register : ℕ) → 0 < register → register < 32 → 1 * 2 ^ register % 2 ^ 32 ≡ mask_of (register ∷ [])
shifted-mask_of zero some below = absurd (omega arith)
shifted-mask_of (suc register) some below =
    let one : 1 * 2 ^ suc register ≡ 2 ^ suc register = one-mul (2 ^ suc register) in
    let small : 2 ^ suc register < 2 ^ 32 = pow-lt below in
    ap (λ n. n % 2 ^ 32) one ∙ (mod-eq_of_lt small ∙ sym (or_zero_r (2 ^ suc register)))

-- Bits of masks, and the registers of an instruction.
use Rattle.std.proofs.Common.{◌≡◌, ℕ, zero, suc, ◌*◌, ◌%◌, ◌^◌, ◌<◌, cond, eqb, List, Some, sym, ap, ◌∙◌, inl, inr, arith, one-mul, zero-mul, mod-eq_of_lt}
use Rattle.std.specs.Prelude.{◌⊎◌, bit_and}
use Rattle.std.specs.Int.{bit_at, bit_not, w32}
use Rattle.std.specs.List.{Contains, list_any}
use Rattle.std.proofs.lemmas.Bool.{cases_Bool, cases_eq, cases_lt}
use Rattle.std.proofs.lemmas.Nat.{and_le_l, pow_pos}
use Rattle.std.proofs.lemmas.Nat.Bits.{bit_at-lt, bit_at_above, and_pow, bit_at_clear_same, bit_at_clear_other}
use Rattle.std.proofs.Math.Pow.{pow-lt}
use Rattle.rv_code.specs.declared.instr.Instr.{Instr}
use Rattle.rv_code.specs.declared.instr.Instr.TheVariants.{Lui, Auipc, Jal, Jalr, Branch, Load, Store, OpImm, Op, Fence, Ecall, Ebreak, Bad}
use Rattle.rv_code.specs.Encoding.{Fits}
use Rattle.rv_code.specs.Parts.{but_zero, mask_of, written_by, base_of}
use Rattle.rv_code.proofs.LawsOfMasks.{bit_of-mask_of, lowest_of-mask_of}
use Rattle.rv_code.proofs.LawsOfElements.{Contains_any, any_Contains}

pub set_or_clear : (n k : ℕ) → (bit_at n k ≡ 1) ⊎ (bit_at n k ≡ 0)
set_or_clear n k = elim (cases_eq (bit_at n k) 1) [ inl set ↦ inl set | inr other ↦ inr (omega (arith, bit_at-lt n k)) ]

-- a mask of registers has exactly these
pub mask_has : (xs : List ℕ) (k : ℕ) → 0 < k → Contains xs k → bit_at (mask_of xs) k ≡ 1
mask_has xs zero some within = absurd (omega arith)
mask_has xs (suc k) some within = bit_of-mask_of xs k ∙ ap (λ b. cond b 1 0) (Contains_any xs (suc k) within)

pub has_mask : (xs : List ℕ) (k : ℕ) → bit_at (mask_of xs) k ≡ 1 → (0 < k) × Contains xs k
has_mask xs zero is = absurd (omega (arith, lowest_of-mask_of xs))
has_mask xs (suc k) is = elim (cases_Bool (list_any (λ x. eqb x (suc k)) xs)) [
  | inl any ↦ (omega arith, any_Contains xs (suc k) any)
  | inr none ↦ let clear : bit_at (mask_of xs) (suc k) ≡ 0 = bit_of-mask_of xs k ∙ ap (λ b. cond b 1 0) none in absurd (omega arith)
]

-- a mask without one bit
pub without_same : (behind written : ℕ) → written < 32 → bit_at (bit_and behind (bit_not w32 (1 * 2 ^ written % 2 ^ 32))) written ≡ 0
without_same behind written below = bit_at_clear_same w32 behind written below

pub without_other : (behind written k : ℕ) → behind < 2 ^ 32 → written < 32 → (k ≡ written → ⊥)
    → bit_at (bit_and behind (bit_not w32 (1 * 2 ^ written % 2 ^ 32))) k ≡ bit_at behind k
without_other behind written k word below other = elim (cases_lt k 32) [
  | inl inside ↦ bit_at_clear_other w32 behind written below k inside other
  | inr past ↦
      let rest : ℕ = bit_and behind (bit_not w32 (1 * 2 ^ written % 2 ^ 32)) in
      bit_at_above rest 32 k (omega (arith, and_le_l behind (bit_not w32 (1 * 2 ^ written % 2 ^ 32)))) past ∙ sym (bit_at_above behind 32 k word past)
]

-- the test of one bit
pub tested_clear : (n k : ℕ) → bit_and n (2 ^ k) ≡ 0 → bit_at n k ≡ 0
tested_clear n k none = elim (set_or_clear n k) [
  | inl set ↦
      let both : bit_at n k * 2 ^ k ≡ 0 = sym (and_pow n k) ∙ none in
      let one : 1 * 2 ^ k ≡ 0 = ap (λ b. b * 2 ^ k) (sym set) ∙ both in
      absurd (omega (arith, one, pow_pos k))
  | inr clear ↦ clear
]

-- the same test, as a shift computes the bit
one_bit : (k : ℕ) → k < 32 → 1 * 2 ^ k % 2 ^ 32 ≡ 2 ^ k
one_bit k below = let small : 2 ^ k < 2 ^ 32 = pow-lt below in ap (λ n. n % 2 ^ 32) (one-mul (2 ^ k)) ∙ mod-eq_of_lt small

pub shifted_clear : (n k : ℕ) → k < 32 → bit_and n (1 * 2 ^ k % 2 ^ 32) ≡ 0 → bit_at n k ≡ 0
shifted_clear n k below none = tested_clear n k (ap (bit_and n) (sym (one_bit k below)) ∙ none)

pub shifted_set : (n k : ℕ) → k < 32 → (bit_and n (1 * 2 ^ k % 2 ^ 32) ≡ 0 → ⊥) → bit_at n k ≡ 1
shifted_set n k below some = elim (set_or_clear n k) [
  | inl set ↦ set
  | inr clear ↦ absurd (some (ap (bit_and n) (one_bit k below) ∙ (and_pow n k ∙ (ap (λ b. b * 2 ^ k) clear ∙ zero-mul (2 ^ k)))))
]

-- a register that is written is one of x1 to x31
but_zero-real : (rd register : ℕ) → but_zero rd ≡ Some register → (0 < register) × (register ≡ rd)
but_zero-real zero register is = absurd (cc is)
but_zero-real (suc rd) register is = let same : suc rd ≡ register = cc is in (omega arith, sym same)

pub written_real : (instr : Instr) (register : ℕ) → Fits instr → written_by instr ≡ Some register → (0 < register) × (register < 32)
written_real (Lui rd imm) register fits is = let (some, same) = but_zero-real rd register is in (some, omega (arith, fits.0))
written_real (Auipc rd imm) register fits is = let (some, same) = but_zero-real rd register is in (some, omega (arith, fits.0))
written_real (Jal rd imm) register fits is = let (some, same) = but_zero-real rd register is in (some, omega (arith, fits.0))
written_real (Jalr rd rs1 imm) register fits is = let (some, same) = but_zero-real rd register is in (some, omega (arith, fits.0))
written_real (Branch op rs1 rs2 imm) register fits is = absurd (cc is)
written_real (Load op rd rs1 imm) register fits is = let (some, same) = but_zero-real rd register is in (some, omega (arith, fits.0))
written_real (Store op rs1 rs2 imm) register fits is = absurd (cc is)
written_real (OpImm op rd rs1 imm) register fits is = let (some, same) = but_zero-real rd register is in (some, omega (arith, fits.0))
written_real (Op op rd rs1 rs2) register fits is = let (some, same) = but_zero-real rd register is in (some, omega (arith, fits.0))
written_real (Fence word) register fits is = absurd (cc is)
written_real Ecall register fits is = let same : 10 ≡ register = cc is in (omega arith, omega arith)
written_real Ebreak register fits is = absurd (cc is)
written_real (Bad word) register fits is = absurd (cc is)

-- and so is a base
pub base_real : (instr : Instr) (register : ℕ) → Fits instr → base_of instr ≡ Some register → (0 < register) × (register < 32)
base_real (Lui rd imm) register fits is = absurd (cc is)
base_real (Auipc rd imm) register fits is = absurd (cc is)
base_real (Jal rd imm) register fits is = absurd (cc is)
base_real (Jalr rd rs1 imm) register fits is = absurd (cc is)
base_real (Branch op rs1 rs2 imm) register fits is = absurd (cc is)
base_real (Load op rd rs1 imm) register fits is = let (some, same) = but_zero-real rs1 register is in (some, omega (arith, fits.1))
base_real (Store op rs1 rs2 imm) register fits is = let (some, same) = but_zero-real rs1 register is in (some, omega (arith, fits.0))
base_real (OpImm op rd rs1 imm) register fits is = absurd (cc is)
base_real (Op op rd rs1 rs2) register fits is = absurd (cc is)
base_real (Fence word) register fits is = absurd (cc is)
base_real Ecall register fits is = absurd (cc is)
base_real Ebreak register fits is = absurd (cc is)
base_real (Bad word) register fits is = absurd (cc is)

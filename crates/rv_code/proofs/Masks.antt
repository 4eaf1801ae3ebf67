-- Registers as bits of a mask.
use Rattle.std.proofs.Common.{◌≡◌, ℕ, zero, suc, ◌^◌, [], ◌∷◌, ap}
use Rattle.std.specs.Prelude.{bit_or}
use Rattle.std.specs.Int.Bits.{or_zero_l, or_zero_r}
use Rattle.rv_code.specs.Parts.{mask_of}

-- the bits of two
pub bit_or-mask_of : (first second : ℕ) → bit_or (mask_of (first ∷ [])) (mask_of (second ∷ [])) ≡ mask_of (first ∷ second ∷ [])
bit_or-mask_of zero second = or_zero_l (mask_of (second ∷ []))
bit_or-mask_of (suc first) second = ap (λ n. bit_or n (mask_of (second ∷ []))) (or_zero_r (2 ^ suc first))

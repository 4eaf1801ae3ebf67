-- Bytes that stand from an offset of a file on, and the numbers in them.
use Rattle.std.proofs.Common.{◌≡◌, ℕ, zero, suc, ◌+◌, ◌-◌, ◌*◌, ◌<◌, ◌≤◌, List, ◌++◌, length, get_or, refl, ap, ◌∙◌, arith}
use Rattle.std.proofs.lemmas.List.{get_or-append_right}
use Rattle.byteorder.specs.Endian.{little_from}

pub record IsAt (file : List ℕ) (offset : ℕ) (bytes : List ℕ) : Type 0 where
  pub byte : (k : ℕ) → k < length bytes → get_or file (offset + k) 0 ≡ get_or bytes k 0

module _ (file : List ℕ) (offset : ℕ) (bytes : List ℕ) (is : IsAt file offset bytes) where
  pub number_at : (size at k : ℕ) → at ≡ offset + k → k + size ≤ length bytes → little_from at size file ≡ little_from k size bytes
  number_at zero at k place within = refl
  number_at (suc size) at k place within =
      let first : get_or file at 0 ≡ get_or bytes k 0 = ap (λ n. get_or file n 0) place ∙ is.byte k (omega arith) in
      let rest : little_from (suc at) size file ≡ little_from (suc k) size bytes = number_at size (suc at) (suc k) (omega arith) (omega arith) in
      λ i. first i + 256 * rest i

-- what stands behind a front
pub at_behind : (front bytes : List ℕ) (offset : ℕ) → length front ≡ offset → IsAt (front ++ bytes) offset bytes
at_behind front bytes offset long =
    record {
      byte = λ k here.
          let place : offset + k - offset ≡ k = omega arith in
          get_or-append_right front bytes offset (offset + k) 0 long (omega arith) ∙ ap (λ n. get_or bytes n 0) place;
    }

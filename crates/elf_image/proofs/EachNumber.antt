-- Whether a test holds of each of some numbers, tried one after the other.
use Rattle.std.proofs.Common.{◌≡◌, ℕ, suc, ◌+◌, ◌-◌, ◌<◌, Bool, true, ap, ◌∙◌, arith}
use Rattle.std.specs.Prelude.{◌&&◌}
use Rattle.std.specs.List.{list_all, range_with_len}

at_front : (p : ℕ → Bool) (number count : ℕ) → number < count
    → list_all p (range_with_len number (count - number)) ≡ (p number && list_all p (range_with_len (number + 1) (count - (number + 1))))
at_front p number count left =
    let one : count - number ≡ suc (count - (number + 1)) = omega arith in ap (λ k. list_all p (range_with_len number k)) one

pub holds_here : (p : ℕ → Bool) (number count : ℕ) → number < count → p number ≡ true
    → list_all p (range_with_len number (count - number)) ≡ list_all p (range_with_len (number + 1) (count - (number + 1)))
holds_here p number count left here = at_front p number count left ∙ ap (λ t. t && list_all p (range_with_len (number + 1) (count - (number + 1)))) here

-- The table of the digits of each byte.
use Rattle.std.proofs.Common.{arith, ◌≡◌, ◌∙◌, refl, ap, ℕ, ◌+◌, ◌*◌, ◌%◌, ◌/◌, Bool, true, false, nat_eq, Option, Some, None, slice_get, [], ◌∷◌}
use Rattle.std.proofs.lemmas.Bool.Decides.{nat_tests}
use Rattle.std.proofs.lemmas.Bool.{agree_below, agree_below_at}
use Rattle.ae_nums.specs.declared.hex.TheConstants.{PAIRS}
use Rattle.ae_nums.specs.Hex.{hex_digit_text, hex8_text}

abbrev is_digit : Option ℕ → ℕ → Bool
is_digit None value = false
is_digit (Some digit) value = nat_eq digit (hex_digit_text value)

abbrev is_second : ℕ → Bool
is_second byte = is_digit (slice_get PAIRS (2 * byte)) (byte / 16)

abbrev is_lowest : ℕ → Bool
is_lowest byte = is_digit (slice_get PAIRS (2 * byte + 1)) (byte % 16)

seconds : agree_below is_second (λ _. true) 256 ≡ true
seconds = refl

lowests : agree_below is_lowest (λ _. true) 256 ≡ true
lowests = refl

from_digit : (found : Option ℕ) (digit value : ℕ) → is_digit found value ≡ true → found ≡ Some digit → digit ≡ hex_digit_text value
from_digit None digit value is e = grind (arith, nat_tests)
from_digit (Some other) digit value is e = grind (arith, nat_tests)

pub second_of : (word digit : ℕ) → slice_get PAIRS (2 * (word % 256)) ≡ Some digit → digit ≡ hex_digit_text (word / 16 % 16)
second_of word digit e =
    let value : word % 256 / 16 ≡ word / 16 % 16 = omega arith in
    from_digit _ digit _ (agree_below_at is_second (λ _. true) 256 (word % 256) seconds (omega arith)) e ∙ ap hex_digit_text value

pub lowest_of : (word digit : ℕ) → slice_get PAIRS (2 * (word % 256) + 1) ≡ Some digit → digit ≡ hex_digit_text (word % 16)
lowest_of word digit e =
    let value : word % 256 % 16 ≡ word % 16 = omega arith in
    from_digit _ digit _ (agree_below_at is_lowest (λ _. true) 256 (word % 256) lowests (omega arith)) e ∙ ap hex_digit_text value

same_digit : (digit shifted other : ℕ) → digit ≡ hex_digit_text (shifted / 16 % 16) → shifted / 16 ≡ other → digit ≡ hex_digit_text (other % 16)
same_digit digit shifted other is e = is ∙ ap (λ value. hex_digit_text (value % 16)) e

pub digits_of_bytes : (word a b c d e f g h : ℕ)
    → a ≡ hex_digit_text (word / 16777216 / 16 % 16) → b ≡ hex_digit_text (word / 16777216 % 16)
    → c ≡ hex_digit_text (word / 65536 / 16 % 16) → d ≡ hex_digit_text (word / 65536 % 16)
    → e ≡ hex_digit_text (word / 256 / 16 % 16) → f ≡ hex_digit_text (word / 256 % 16)
    → g ≡ hex_digit_text (word / 16 % 16) → h ≡ hex_digit_text (word % 16)
    → a ∷ b ∷ c ∷ d ∷ e ∷ f ∷ g ∷ h ∷ [] ≡ hex8_text word
digits_of_bytes word a b c d e f g h is-a is-b is-c is-d is-e is-f is-g is-h =
    let whole : word ≡ word / 1 = omega arith in
    rw (
      same_digit a (word / 16777216) (word / 268435456) is-a (omega arith),
      is-b,
      same_digit c (word / 65536) (word / 1048576) is-c (omega arith),
      is-d,
      same_digit e (word / 256) (word / 4096) is-e (omega arith),
      is-f,
      is-g,
      is-h ∙ ap (λ value. hex_digit_text (value % 16)) whole,
    )

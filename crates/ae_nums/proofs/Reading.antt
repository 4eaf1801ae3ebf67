-- How decimal digits are read from the front, and that each number has one spelling.
use Rattle.std.proofs.Common.{◌≡◌, ℕ, zero, suc, ◌+◌, ◌-◌, ◌*◌, ◌^◌, ◌<◌, ◌≤◌, Bool, true, nat_lt, ◌==◌, ◌&&◌, ◌||◌, not, if◌then◌else◌, List, length, take, get_or, slice_index, Option, Some, None, IfSome, sym, ap, ◌∙◌, subst, arith, rules}
use Rattle.std.specs.List.{list_all}
use Rattle.std.specs.Char.{is_ascii_digit, digit_value}
use Rattle.std.specs.Fmt.{decimal}
use Rattle.std.specs.Str.Parse.{digits_value}
use Rattle.std.proofs.lemmas.Bool.Decides.{nat_tests}
use Rattle.std.proofs.lemmas.Int.Digits.{digits_value_more}
use Rattle.std.proofs.lemmas.Str.Parse.{IsNumeralModel, numerals_by_value, digits_value-take-le}
use Rattle.std.proofs.lemmas.Fmt.{decimal-digits_value, digits_decimal, digits_value-decimal, decimal_nonempty, decimal_digit, first_decimal}
use Rattle.ae_nums.specs.Decimal.{decimal_text, digits_number, decimal_number}

-- std's lemmas on numerals hold of these digits
own : IsNumeralModel (λ ds. list_all is_ascii_digit ds ≡ true) (digits_value 10)
own = numerals_by_value _ (search rules)

-- what a digit stands for
digit_is : (byte : ℕ) → is_ascii_digit byte ≡ true → digit_value byte ≡ byte - 48
digit_is byte digit = grind (arith, nat_tests)

-- what is read, by the parts that it depends on
abbrev read_of : ℕ → ℕ → ℕ → Bool → Option ℕ
read_of size first value digits = if nat_lt 0 size && (not (first == 48) || size == 1) then (if digits && nat_lt value (2 ^ 64) then Some value else None) else None

-- one more digit
pub value_more : (bytes : List ℕ) (at number : ℕ) → at < length bytes → is_ascii_digit (get_or bytes at 0) ≡ true → number ≡ digits_value 10 (take at bytes) → number * 10 + (get_or bytes at 0 - 48) ≡ digits_value 10 (take (at + 1) bytes)
value_more bytes at number inside digit so_far =
    ap (λ value. value * 10 + (get_or bytes at 0 - 48)) so_far ∙ ap (λ value. digits_value 10 (take at bytes) * 10 + value) (sym (digit_is (get_or bytes at 0) digit)) ∙ sym (digits_value_more 10 bytes at inside)

-- a number of 2^64 or more is none
none_from_large : (digits : Bool) (number : ℕ) → 2 ^ 64 ≤ number → None ≡ (if digits && nat_lt number (2 ^ 64) then Some number else None)
none_from_large digits number large = grind (arith, nat_tests)

-- a number that is too large after some digits stays so
pub too_large : (bytes : List ℕ) (at : ℕ) → 2 ^ 64 ≤ digits_value 10 (take at bytes) → None ≡ digits_number bytes
too_large bytes at large =
    let more : digits_value 10 (take at bytes) ≤ digits_value 10 bytes = digits_value-take-le 10 bytes at (omega arith) in
    none_from_large (list_all is_ascii_digit bytes) (digits_value 10 bytes) (omega arith)

-- a smaller one of digits alone is the number
some_from_small : (digits : Bool) (number : ℕ) → digits ≡ true → number < 2 ^ 64 → Some number ≡ (if digits && nat_lt number (2 ^ 64) then Some number else None)
some_from_small digits number is small = grind (arith, nat_tests)

-- where all bytes are digits and the number is small, it is the answer
pub small_enough : (bytes : List ℕ) → list_all is_ascii_digit bytes ≡ true → digits_value 10 bytes < 2 ^ 64 → Some (digits_value 10 bytes) ≡ digits_number bytes
small_enough bytes digits small = some_from_small (list_all is_ascii_digit bytes) (digits_value 10 bytes) digits small

-- what a number that is read says of its bytes
read_some : (size first value number : ℕ) (digits : Bool) → Some number ≡ read_of size first value digits → 0 < size
read_some size first value number digits is = grind (arith, nat_tests)

read_front : (size first value number : ℕ) (digits : Bool) → Some number ≡ read_of size first value digits → first ≡ 48 → size ≡ 1
read_front size first value number digits is zero_first = grind (arith, nat_tests)

read_digits : (size first value number : ℕ) (digits : Bool) → Some number ≡ read_of size first value digits → digits ≡ true
read_digits size first value number digits is = grind (arith, nat_tests)

read_value : (size first value number : ℕ) (digits : Bool) → Some number ≡ read_of size first value digits → value ≡ number
read_value size first value number digits is = grind (arith, nat_tests)

read_small : (size first value number : ℕ) (digits : Bool) → Some number ≡ read_of size first value digits → value < 2 ^ 64
read_small size first value number digits is = grind (arith, nat_tests)

-- a number that is read has this spelling
pub one_spelling : (bytes : List ℕ) (result : Option ℕ) → result ≡ decimal_number bytes → IfSome result (λ number. decimal_text number ≡ bytes)
one_spelling bytes None is = tt
one_spelling bytes (Some number) is =
    let size = length bytes in
    let first = slice_index bytes 0 in
    let value = digits_value 10 bytes in
    let digits = list_all is_ascii_digit bytes in
    subst (λ value. decimal value ≡ bytes) (read_value size first value number digits is) (decimal-digits_value own bytes (read_digits size first value number digits is) (read_some size first value number digits is) (read_front size first value number digits is) (read_small size first value number digits is))

-- what is read of parts that fit
read_fits : (size first value number : ℕ) (digits : Bool) → 0 < size → (first ≡ 48 → size ≡ 1) → digits ≡ true → value ≡ number → number < 2 ^ 64 → read_of size first value digits ≡ Some number
read_fits size first value number digits some front all is small = grind (arith, nat_tests)

-- a text has one digit, or begins with another than 0
front_of : (number : ℕ) → number < 2 ^ 64 → get_or (decimal number) 0 0 ≡ 48 → length (decimal number) ≡ 1
front_of zero small first = ap length (decimal_digit zero (omega arith))
front_of (suc number) small first =
    let above : 48 < get_or (decimal (suc number)) 0 0 = first_decimal (suc number) (omega arith) small in
    absurd (omega (arith, above, first))

-- a number that is written is read back
pub read_back : (bytes : List ℕ) (result : Option ℕ) → result ≡ decimal_number bytes → (number : ℕ) → number < 2 ^ 64 → bytes ≡ decimal_text number → result ≡ Some number
read_back bytes result is number small written =
    let text = decimal number in
    is ∙ ap decimal_number written ∙ read_fits (length text) (slice_index text 0) (digits_value 10 text) number (list_all is_ascii_digit text) (decimal_nonempty number small) (front_of number small) (digits_decimal own number small) (digits_value-decimal own number small) small

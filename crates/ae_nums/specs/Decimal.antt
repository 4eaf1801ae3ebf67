-- Numbers in decimal, as they are written and as they are read.
use Rattle.std.specs.Prelude.{ℕ, ◌^◌, Bool, nat_lt, ◌==◌, ◌&&◌, ◌||◌, not, if◌then◌else◌, List, length, slice_index, Option, Some, None}
use Rattle.std.specs.List.{list_all}
use Rattle.std.specs.Char.{is_ascii_digit}
use Rattle.std.specs.Fmt.{decimal}
use Rattle.std.specs.Str.Parse.{digits_value}

-- the digits of a number below 2^64, with no leading zero: 0 is the one digit 0
abbrev pub decimal_text : ℕ → List ℕ
decimal_text number = decimal number

-- the number that these digits spell: none where a byte is no digit, or the number is 2^64 or more
abbrev pub digits_number : List ℕ → Option ℕ
digits_number bytes = if list_all is_ascii_digit bytes && nat_lt (digits_value 10 bytes) (2 ^ 64) then Some (digits_value 10 bytes) else None

-- there is a byte, and the first is the digit 0 only where it is the only one
abbrev pub has_decimal_front : List ℕ → Bool
has_decimal_front bytes = nat_lt 0 (length bytes) && (not (slice_index bytes 0 == 48) || length bytes == 1)

-- the number whose decimal text these bytes are: none for no byte, a byte that is no digit, a zero before another digit, or 2^64 and more
abbrev pub decimal_number : List ℕ → Option ℕ
decimal_number bytes = if has_decimal_front bytes then digits_number bytes else None

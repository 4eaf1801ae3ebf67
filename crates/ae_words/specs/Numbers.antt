-- The words of a command that are numbers, in decimal and with no zero in front.
use Rattle.std.specs.Prelude.{ℕ, nat_lt, ◌==◌, ◌^◌, if◌then◌else◌, List, Option, Some, None}
use Rattle.std.specs.Option.{option_and_then}
use Rattle.ae_nums.specs.Decimal.{decimal_number}

-- a number from 1 to 2^64 - 1
abbrev pub positive_number : List ℕ → Option ℕ
positive_number word = option_and_then (λ number. if number == 0 then None else Some number) (decimal_number word)

-- a number from 1 to 2^32 - 1
abbrev pub short_positive_number : List ℕ → Option ℕ
short_positive_number word = option_and_then (λ number. if nat_lt number (2 ^ 32) then Some number else None) (positive_number word)

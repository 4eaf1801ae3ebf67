-- Numbers in hexadecimal, in lower case.
use Rattle.std.specs.Prelude.{ℕ, zero, suc, ◌/◌, ◌%◌, ◌^◌, false, List, [], ◌∷◌}
use Rattle.std.specs.Fmt.{digit_glyph}

-- the digit of a number below 16, 0 to 9 and then a to f
abbrev pub hex_digit_text : ℕ → ℕ
hex_digit_text value = digit_glyph false value

-- the lowest so many digits of a number, highest first
abbrev pub hex_text : ℕ → ℕ → List ℕ
hex_text zero number = []
hex_text (suc count) number = hex_digit_text (number / 16 ^ count % 16) ∷ hex_text count number

-- the eight digits of a word
abbrev pub hex8_text : ℕ → List ℕ
hex8_text word = hex_text 8 word

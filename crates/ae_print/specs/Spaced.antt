-- Words in a line, each behind a blank, in eight hexadecimal digits.
use Rattle.std.specs.Prelude.{ℕ, List, ◌++◌, codes}
use Rattle.std.specs.List.{flat_map}
use Rattle.ae_nums.specs.Hex.{hex8_text}

abbrev pub spaced_word : ℕ → List ℕ
spaced_word word = codes " " ++ hex8_text word

abbrev pub spaced_words : List ℕ → List ℕ
spaced_words words = flat_map spaced_word words

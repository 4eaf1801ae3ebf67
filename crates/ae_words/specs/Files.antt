-- The words of a command that name files.
use Rattle.std.specs.Prelude.{ℕ, Bool, true, not, ◌&&◌, List, [], ◌∷◌, length, slice_index, ◌==◌}
use Rattle.std.specs.List.{list_any, list_all}
use Rattle.std.specs.Str.{bytes_eq}

-- a word that names a file: it isn't empty, doesn't begin with `-` and has no zero byte
abbrev pub is_file_word : List ℕ → Bool
is_file_word word = not (length word == 0) && not (slice_index word 0 == 0x2d) && list_all (λ byte. not (byte == 0)) word

-- a word that stands among these
abbrev pub is_among : List ℕ → List (List ℕ) → Bool
is_among word words = list_any (λ other. bytes_eq other word) words

-- words that name files, no two of them the same
abbrev pub are_file_words : List (List ℕ) → Bool
are_file_words [] = true
are_file_words (word ∷ words) = is_file_word word && not (is_among word words) && are_file_words words

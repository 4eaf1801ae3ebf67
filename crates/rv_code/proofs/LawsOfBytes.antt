-- Laws of the bytes of words.
use Rattle.std.proofs.Common.{◌≡◌, ℕ, ◌*◌, List, [], ◌∷◌, length, refl, arith}
use Rattle.std.specs.List.{AllByRecursion, flat_map}
use Rattle.rv_code.specs.Numbers.{IsByte, IsWord, bytes_of, number_of}

pub number_of-bytes_of : (word : ℕ) → IsWord word → number_of (bytes_of 4 word) ≡ word
number_of-bytes_of word small = omega (arith, small)

pub length-words : (words : List ℕ) → length (flat_map (bytes_of 4) words) ≡ 4 * length words
length-words [] = refl
length-words (word ∷ words) = omega (arith, length-words words)

pub words_are_bytes : (words : List ℕ) → AllByRecursion IsByte (flat_map (bytes_of 4) words)
words_are_bytes [] = tt
words_are_bytes (word ∷ words) = (omega arith, (omega arith, (omega arith, (omega arith, words_are_bytes words))))

-- Words as bytes.
use Rattle.std.proofs.Common.{◌≡◌, ℕ, ◌/◌, ◌%◌, List, [], ◌∷◌, ◌++◌, length, refl, arith}
use Rattle.std.specs.List.{AllByRecursion, flat_map}
use Rattle.rv_code.specs.Numbers.{IsWord, bytes_of}

-- a word is known by its four bytes
same_word : (a b : ℕ) → IsWord a → IsWord b → a % 256 ≡ b % 256 → a / 256 % 256 ≡ b / 256 % 256
    → a / 256 / 256 % 256 ≡ b / 256 / 256 % 256 → a / 256 / 256 / 256 % 256 ≡ b / 256 / 256 / 256 % 256 → a ≡ b
same_word a b small_a small_b one two three four = omega arith

pub bytes_of-same : (a b : ℕ) (xs ys : List ℕ) → IsWord a → IsWord b → bytes_of 4 a ++ xs ≡ bytes_of 4 b ++ ys → (a ≡ b) × (xs ≡ ys)
bytes_of-same a b xs ys small_a small_b same = (same_word a b small_a small_b (cc) (cc) (cc) (cc), cc)

-- as many words are known by their bytes, whatever follows
pub words_same : (ws vs xs ys : List ℕ) → length ws ≡ length vs → AllByRecursion IsWord ws → AllByRecursion IsWord vs
    → flat_map (bytes_of 4) ws ++ xs ≡ flat_map (bytes_of 4) vs ++ ys → (ws ≡ vs) × (xs ≡ ys)
words_same [] [] xs ys count small_ws small_vs same = (refl, same)
words_same [] (v ∷ vs) xs ys count small_ws small_vs same = absurd (omega (arith, count))
words_same (w ∷ ws) [] xs ys count small_ws small_vs same = absurd (omega (arith, count))
words_same (w ∷ ws) (v ∷ vs) xs ys count small_ws small_vs same =
    let first = bytes_of-same w v (flat_map (bytes_of 4) ws ++ xs) (flat_map (bytes_of 4) vs ++ ys) small_ws.0 small_vs.0 same in
    let more = words_same ws vs xs ys (omega (arith, count)) small_ws.1 small_vs.1 first.1 in
    (cc (first.0, more.0), more.1)

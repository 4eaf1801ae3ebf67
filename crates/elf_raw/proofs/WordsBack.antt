-- Words that were written one after the other are read back.
use Rattle.std.proofs.Common.{◌≡◌, ℕ, zero, suc, ◌+◌, ◌*◌, ◌<◌, List, [], ◌∷◌, ◌++◌, length, get_or, refl, sym, ap, ◌∙◌, append_assoc, arith, length-append}
use Rattle.std.specs.List.{AllByRecursion}
use Rattle.byteorder.specs.Endian.{little_bytes}
use Rattle.rv_code.specs.Numbers.{IsWord}
use Rattle.elf_raw.specs.Numbers.{word_at}
use Rattle.elf_raw.specs.Written.{word_bytes}
use Rattle.elf_raw.proofs.HeaderBytes.{word_back}
use Rattle.elf_raw.proofs.Placed.{at_behind, number_at}

pub word_there : (words before behind : List ℕ) (number : ℕ) → AllByRecursion IsWord words → number < length words
    → word_at (before ++ (word_bytes words ++ behind)) (length before + 4 * number) ≡ get_or words number 0
word_there [] before behind number fit within = absurd (omega arith)
word_there (word ∷ words) before behind zero fit within =
    let bytes : List ℕ = word_bytes (word ∷ words) ++ behind in
    number_at (before ++ bytes) (length before) bytes (at_behind before bytes (length before) refl) 4 (length before + 4 * 0) 0 (omega arith) (omega arith)
    ∙ word_back word fit.0
word_there (word ∷ words) before behind (suc number) fit within =
    let first : List ℕ = little_bytes 4 word in
    let place : length before + 4 * suc number ≡ length (before ++ first) + 4 * number = omega (arith, length-append before first) in
    let same : before ++ (word_bytes (word ∷ words) ++ behind) ≡ (before ++ first) ++ (word_bytes words ++ behind) =
    ap (λ (xs : List ℕ). before ++ xs) (append_assoc first (word_bytes words) behind) ∙ sym (append_assoc before first (word_bytes words ++ behind)) in
    (λ i. word_at (same i) (place i)) ∙ word_there words (before ++ first) behind number fit.1 (omega arith)

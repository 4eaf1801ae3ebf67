-- Words as bytes, at offsets.
use Rattle.std.proofs.Common.{◌≡◌, ℕ, ◌+◌, ◌≤◌, List, [], ◌∷◌, length, take, drop, get_or, ap, ◌∙◌, arith}
use Rattle.std.proofs.lemmas.List.{drop_more}

-- the four bytes at an offset
pub four_bytes : (bytes : List ℕ) (offset : ℕ) → offset + 4 ≤ length bytes
    → take 4 (drop offset bytes) ≡ get_or bytes offset 0 ∷ get_or bytes (offset + 1) 0 ∷ get_or bytes (offset + 2) 0 ∷ get_or bytes (offset + 3) 0 ∷ []
four_bytes bytes offset whole =
    let two : offset + 1 + 1 ≡ offset + 2 = omega arith in
    let three : offset + 2 + 1 ≡ offset + 3 = omega arith in
    ap (take 4) (drop_more bytes offset 0 (omega arith))
    ∙ ap (λ xs. get_or bytes offset 0 ∷ take 3 xs) (drop_more bytes (offset + 1) 0 (omega arith) ∙ ap (λ n. get_or bytes (offset + 1) 0 ∷ drop n bytes) two)
    ∙ ap (λ xs. get_or bytes offset 0 ∷ get_or bytes (offset + 1) 0 ∷ take 2 xs) (drop_more bytes (offset + 2) 0 (omega arith) ∙ ap (λ n. get_or bytes (offset + 2) 0 ∷ drop n bytes) three)
    ∙ ap (λ xs. get_or bytes offset 0 ∷ get_or bytes (offset + 1) 0 ∷ get_or bytes (offset + 2) 0 ∷ take 1 xs) (drop_more bytes (offset + 3) 0 (omega arith))

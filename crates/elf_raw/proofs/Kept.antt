-- Parts that don't meet stand in the file that they are laid into, each at its offset.
use Rattle.std.proofs.Common.{◌≡◌, ℕ, zero, suc, ◌+◌, ◌<◌, ◌≤◌, List, [], ◌∷◌, length, get_or, inl, inr, refl, sym, ap, subst, ◌∙◌, arith}
use Rattle.std.proofs.lemmas.Bool.{cases_lt}
use Rattle.std.proofs.lemmas.List.Elements.{All-tail}
use Rattle.std.specs.List.{All, AllPairs, fold}
use Rattle.elf_raw.specs.declared.piece.Piece.{Piece}
use Rattle.elf_raw.specs.Writable.{IsApart}
use Rattle.elf_raw.specs.Written.{end_of, laid, lay}
use Rattle.elf_raw.proofs.Ends.{end_within}
use Rattle.elf_raw.proofs.Laid.{laid_none, length_laid, laid_here, laid_before, laid_behind}
use Rattle.elf_raw.proofs.Placed.{IsAt}

abbrev pub EndsWithin : ℕ → Piece → Type 0
EndsWithin size part = end_of part.offset (length part.bytes) ≤ size

within_laid : (at size : ℕ) (bytes : List ℕ) → 0 < length bytes → end_of at (length bytes) ≤ size → at + length bytes ≤ size
within_laid at size bytes some within = end_within at (length bytes) size some within

pub length_lay : (file : List ℕ) (at : ℕ) (bytes : List ℕ) → end_of at (length bytes) ≤ length file → length (laid file at bytes) ≡ length file
length_lay file at [] within = ap length (laid_none file at)
length_lay file at (byte ∷ bytes) within = length_laid file at (byte ∷ bytes) (within_laid at (length file) (byte ∷ bytes) (omega arith) within)

-- a part that was laid is there
at_laid : (file : List ℕ) (at : ℕ) (bytes : List ℕ) → end_of at (length bytes) ≤ length file → IsAt (laid file at bytes) at bytes
at_laid file at [] within = record { byte = λ k here. absurd (omega arith) }
at_laid file at (byte ∷ bytes) within =
    record { byte = laid_here file at (byte ∷ bytes) (within_laid at (length file) (byte ∷ bytes) (omega arith) within) }

-- a byte outside a part isn't changed
kept_outside : (file : List ℕ) (at : ℕ) (bytes : List ℕ) (n : ℕ) → end_of at (length bytes) ≤ length file → (at ≤ n → n < at + length bytes → ⊥) → get_or (laid file at bytes) n 0 ≡ get_or file n 0
kept_outside file at [] n within outside = ap (λ (xs : List ℕ). get_or xs n 0) (laid_none file at)
kept_outside file at (byte ∷ bytes) n within outside =
    let inside : at + length (byte ∷ bytes) ≤ length file = within_laid at (length file) (byte ∷ bytes) (omega arith) within in
    elim (cases_lt n at) [
      | inl before ↦ laid_before file at (byte ∷ bytes) inside n before
      | inr from ↦ elim (cases_lt n (at + length (byte ∷ bytes))) [
        | inl below ↦ absurd (outside from below)
        | inr behind ↦ laid_behind file at (byte ∷ bytes) inside n behind
      ]
    ]

-- a part is kept where another is laid
kept_by : (file : List ℕ) (part other : Piece) → EndsWithin (length file) other → IsApart part other → IsAt file part.offset part.bytes → IsAt (lay file other) part.offset part.bytes
kept_by file part other within apart is =
    record {
      byte = λ k here.
          kept_outside file other.offset other.bytes (part.offset + k) within
          (λ above below. apart (part.offset + k, record { above = omega arith; below = omega arith }, record { above = above; below = below }))
          ∙ is.byte k here;
    }

-- what is said of each two of a list, of those behind the first
rest_pairs : {X : Type 0} (R : X → X → Type 0) (x : X) (xs : List X) → AllPairs R (x ∷ xs) → AllPairs R xs
rest_pairs R x xs all = λ i j d order within. all (suc i) (suc j) d (omega arith) (omega arith)

-- and where others are
kept_by_all : (parts : List Piece) (file : List ℕ) (part : Piece) → All (EndsWithin (length file)) parts → All (IsApart part) parts → IsAt file part.offset part.bytes
    → IsAt (fold lay file parts) part.offset part.bytes
kept_by_all [] file part within apart is = is
kept_by_all (other ∷ parts) file part within apart is =
    let here : EndsWithin (length file) other = within 0 other (omega arith) in
    let same : length file ≡ length (lay file other) = sym (length_lay file other.offset other.bytes here) in
    let rest : All (EndsWithin (length (lay file other))) parts = subst (λ n. All (EndsWithin n) parts) same (All-tail (EndsWithin (length file)) other parts within) in
    kept_by_all parts (lay file other) part rest (All-tail (IsApart part) other parts apart) (kept_by file part other here (apart 0 other (omega arith)) is)

-- each part is there when all are laid
pub part_at : (parts : List Piece) (file : List ℕ) (k : ℕ) (d : Piece) → All (EndsWithin (length file)) parts → AllPairs IsApart parts → k < length parts
    → IsAt (fold lay file parts) (get_or parts k d).offset (get_or parts k d).bytes
part_at [] file k d within apart here = absurd (omega arith)
part_at (part ∷ parts) file zero d within apart here =
    let first : EndsWithin (length file) part = within 0 part (omega arith) in
    let same : length file ≡ length (lay file part) = sym (length_lay file part.offset part.bytes first) in
    let rest : All (EndsWithin (length (lay file part))) parts = subst (λ n. All (EndsWithin n) parts) same (All-tail (EndsWithin (length file)) part parts within) in
    let others : All (IsApart part) parts = λ j e below. apart 0 (suc j) e (omega arith) (omega arith) in
    kept_by_all parts (lay file part) part rest others (at_laid file part.offset part.bytes first)
part_at (part ∷ parts) file (suc k) d within apart here =
    let first : EndsWithin (length file) part = within 0 part (omega arith) in
    let same : length file ≡ length (lay file part) = sym (length_lay file part.offset part.bytes first) in
    let rest : All (EndsWithin (length (lay file part))) parts = subst (λ n. All (EndsWithin n) parts) same (All-tail (EndsWithin (length file)) part parts within) in
    part_at parts (lay file part) k d rest (rest_pairs IsApart part parts apart) (omega arith)

-- the length of the file stays
pub length_all : (parts : List Piece) (file : List ℕ) → All (EndsWithin (length file)) parts → length (fold lay file parts) ≡ length file
length_all [] file within = refl
length_all (part ∷ parts) file within =
    let first : EndsWithin (length file) part = within 0 part (omega arith) in
    let same : length (lay file part) ≡ length file = length_lay file part.offset part.bytes first in
    let rest : All (EndsWithin (length (lay file part))) parts = subst (λ n. All (EndsWithin n) parts) (sym same) (All-tail (EndsWithin (length file)) part parts within) in
    length_all parts (lay file part) rest ∙ same

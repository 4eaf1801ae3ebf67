-- The bytes of a schema are read back.
use Rattle.std.proofs.Common.{◌≡◌, ℕ, zero, suc, ◌+◌, ◌*◌, ◌<◌, ◌≤◌, Bool, false, List, [], ◌∷◌, ◌++◌, length, map, take, Some, None, refl, sym, ap, cond, ◌∙◌, append_assoc, arith}
use Rattle.std.specs.Prelude.{flat_map, slice_get}
use Rattle.std.specs.List.{find, range_with_len}
use Rattle.std.proofs.Math.Nat.{mul-suc}
use Rattle.std.proofs.lemmas.List.{length-append, drop_at}
use Rattle.rv_code.specs.Numbers.{IsWord, bytes_of, number_of}
use Rattle.rv_code.proofs.LawsOfBytes.{number_of-bytes_of}
use Rattle.schema_form.specs.Layout.{word_from}

-- a word that stands behind others is what is said at its offset
pub word_back : (front : List ℕ) (w : ℕ) (rest : List ℕ) (offset : ℕ) → length front ≡ offset → IsWord w → word_from (front ++ (bytes_of 4 w ++ rest)) offset ≡ w
word_back front w rest offset long small =
    ap (λ list. number_of (take 4 list)) (drop_at front (bytes_of 4 w ++ rest) offset long) ∙ number_of-bytes_of w small

-- rows of one length, one of which stands behind others
pub record RowAt {X : Type 0} (row : X → List ℕ) (size : ℕ) (xs : List X) (place : ℕ) (x : X) : Type 0 where
  pub front : List ℕ
  pub back : List ℕ
  pub split : flat_map row xs ≡ front ++ (row x ++ back)
  pub long : length front ≡ size * place

module _ {X : Type 0} (row : X → List ℕ) (size : ℕ) (each : (x : X) → length (row x) ≡ size) where
  pub row_at : (xs : List X) (place : ℕ) (x : X) → slice_get xs place ≡ Some x → RowAt row size xs place x
  row_at [] place x is = absurd (cc is)
  row_at (y ∷ ys) zero x is =
      let same : y ≡ x = cc is in
      record { front = []; back = flat_map row ys; split = ap (λ z. row z ++ flat_map row ys) same; long = omega arith }
  row_at (y ∷ ys) (suc place) x is =
      let rest = row_at ys place x is in
      record {
        front = row y ++ rest.front;
        back = rest.back;
        split = ap (λ list. row y ++ list) rest.split ∙ sym (append_assoc (row y) rest.front (row x ++ rest.back));
        long = let at = rest.long in omega (arith, length-append (row y) rest.front, each y, at, mul-suc size place);
      }

  pub length-rows : (xs : List X) → length (flat_map row xs) ≡ size * length xs
  length-rows [] = omega arith
  length-rows (x ∷ xs) =
      omega (arith, length-append (row x) (flat_map row xs), each x, length-rows xs, mul-suc size (length xs))

-- what a function of numbers gives of each number in turn
pub rows_same : {X : Type 0} (f : ℕ → X) (from : ℕ) (xs : List X) → ((place : ℕ) (x : X) → slice_get xs place ≡ Some x → f (from + place) ≡ x) → map f (range_with_len from (length xs)) ≡ xs
rows_same f from [] each = refl
rows_same f from (x ∷ xs) each =
    let here : from + 0 ≡ from = omega arith in
    let first : f from ≡ x = ap f (sym here) ∙ each 0 x refl in
    let rest = rows_same f (from + 1) xs (λ place y is. let there : from + 1 + place ≡ from + suc place = omega arith in ap f there ∙ each (suc place) y is) in
    (λ i. first i ∷ rest i)

-- a test that fails of each number
pub none_when : (p : ℕ → Bool) (from count : ℕ) → ((k : ℕ) → from ≤ k → k < from + count → p k ≡ false) → find p (range_with_len from count) ≡ None
none_when p from zero fails = refl
none_when p from (suc count) fails =
    ap (λ t. cond t (Some from) (find p (range_with_len (from + 1) count))) (fails from (omega arith) (omega arith))
    ∙ none_when p (from + 1) count (λ k low high. fails k (omega arith) (omega arith))

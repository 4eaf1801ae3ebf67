-- The marked words, one place after the other.
use Rattle.std.proofs.Common.{◌≡◌, ℕ, zero, suc, ◌+◌, ◌≤◌, Bool, true, false, cond, List, [], ◌∷◌, ◌++◌, get_or, take, Some, sym, ap, ◌∙◌, arith, append-nil, take_all}
use Rattle.std.specs.Prelude.{filter}
use Rattle.std.specs.Option.{option_map_or}
use Rattle.rv_code.specs.declared.image.Range.{Range}
use Rattle.std.specs.Prelude.{slice_get}
use Rattle.rv_code.specs.Code.{extents_of}
use Rattle.rv_code.specs.Image.{word_count}
use Rattle.rv_code.specs.Places.{code_addresses, address_of, ExtentsRise}
use Rattle.rv_code.proofs.LawsOfLookUps.{place_of-address_of}
use Rattle.rv_code.proofs.LawsOfPlaces.{length-code_addresses_of_ranges}
use Rattle.reach_slice.specs.Marked.{is_marked, marked_words}

one_more : (p : ℕ → Bool) (xs : List ℕ) (place x : ℕ) → slice_get xs place ≡ Some x
    → filter p (take (suc place) xs) ≡ filter p (take place xs) ++ cond (p x) (x ∷ []) []
one_more p [] place x is = absurd (cc is)
one_more p (y ∷ ys) zero x is = let same : y ≡ x = cc is in ap (λ n. cond (p n) (n ∷ []) []) same
one_more p (y ∷ ys) (suc place) x is = put_on (p y) y (filter p (take (suc place) ys)) (filter p (take place ys)) (cond (p x) (x ∷ []) []) (one_more p ys place x is)
  where
    put_on : (b : Bool) (y : ℕ) (xs ys zs : List ℕ) → xs ≡ ys ++ zs → cond b (y ∷ xs) xs ≡ cond b (y ∷ ys) ys ++ zs
    put_on true y xs ys zs same = ap (λ l. y ∷ l) same
    put_on false y xs ys zs same = same

mark_of : (code : List Range) (marks : List Bool) (place address : ℕ) → ExtentsRise (extents_of code) → address_of (extents_of code) place ≡ Some address
    → is_marked code marks address ≡ get_or marks place false
mark_of code marks place address rise at = ap (λ o. option_map_or (λ p. get_or marks p false) o false) (place_of-address_of (extents_of code) place address rise at)

pub marked_more : (code : List Range) (marks : List Bool) (place address : ℕ) (now next : List ℕ) → ExtentsRise (extents_of code)
    → address_of (extents_of code) place ≡ Some address → get_or marks place false ≡ true
    → now ≡ filter (is_marked code marks) (take place (code_addresses (extents_of code))) → next ≡ now ++ address ∷ []
    → next ≡ filter (is_marked code marks) (take (place + 1) (code_addresses (extents_of code)))
marked_more code marks place address now next rise at set is pushed =
    let more : place + 1 ≡ suc place = omega arith in
    pushed ∙ ap (λ l. l ++ address ∷ []) is
    ∙ sym (ap (λ n. filter (is_marked code marks) (take n (code_addresses (extents_of code)))) more
    ∙ (one_more (is_marked code marks) (code_addresses (extents_of code)) place address at
    ∙ ap (λ b. filter (is_marked code marks) (take place (code_addresses (extents_of code))) ++ cond b (address ∷ []) []) (mark_of code marks place address rise at ∙ set)))

pub unmarked_more : (code : List Range) (marks : List Bool) (place address : ℕ) (now : List ℕ) → ExtentsRise (extents_of code)
    → address_of (extents_of code) place ≡ Some address → get_or marks place false ≡ false
    → now ≡ filter (is_marked code marks) (take place (code_addresses (extents_of code)))
    → now ≡ filter (is_marked code marks) (take (place + 1) (code_addresses (extents_of code)))
unmarked_more code marks place address now rise at clear is =
    let more : place + 1 ≡ suc place = omega arith in
    is ∙ sym (append-nil (filter (is_marked code marks) (take place (code_addresses (extents_of code)))))
    ∙ sym (ap (λ n. filter (is_marked code marks) (take n (code_addresses (extents_of code)))) more
    ∙ (one_more (is_marked code marks) (code_addresses (extents_of code)) place address at
    ∙ ap (λ b. filter (is_marked code marks) (take place (code_addresses (extents_of code))) ++ cond b (address ∷ []) []) (mark_of code marks place address rise at ∙ clear)))

pub marked_all : (code : List Range) (marks : List Bool) (place : ℕ) (words : List ℕ) → word_count code ≤ place
    → words ≡ filter (is_marked code marks) (take place (code_addresses (extents_of code))) → words ≡ marked_words code marks
marked_all code marks place words past is =
    is ∙ ap (filter (is_marked code marks)) (take_all place (code_addresses (extents_of code)) (omega (arith, length-code_addresses_of_ranges code)))

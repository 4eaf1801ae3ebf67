-- Laws of lists by their elements: by the place of one, and by the test that it passes.
use Rattle.std.proofs.Common.{◌≡◌, ◌≢◌, ℕ, zero, suc, ◌+◌, ◌<◌, ◌≤◌, Bool, true, false, cond, eqb, ◌||◌, List, [], ◌∷◌, ◌++◌, length, get_or, take, Option, Some, None, refl, sym, ap, ◌∙◌, subst, inl, inr, arith}
use Rattle.std.specs.Prelude.{IfSome, filter, slice_get, slice_set}
use Rattle.std.specs.List.{AllByRecursion, Contains, cons_option, list_any}
use Rattle.std.proofs.Math.Seq.{take-append-add}
use Rattle.std.proofs.lemmas.Bool.{cases_Bool, cases_eq, eq-eqb, ne_eqb}
use Rattle.std.proofs.lemmas.List.{take-take, length-take-le}
use Rattle.std.proofs.lemmas.Slice.{take-put_mid}
use borrow.Rule.Slice.PartMut.{put_mid}

-- what holds at each place holds of all
pub all_by_place : (P : ℕ → Type 0) (xs : List ℕ) → ((place : ℕ) → place < length xs → P (get_or xs place 0)) → AllByRecursion P xs
all_by_place P [] each = tt
all_by_place P (x ∷ xs) each = (each 0 (omega arith), all_by_place P xs (λ place within. each (suc place) (omega (arith, within))))

pub all_cons_option : {X : Type 0} (P : X → Type 0) (first : Option X) (rest : List X) → IfSome first P → AllByRecursion P rest → AllByRecursion P (cons_option first rest)
all_cons_option P None rest holds all = all
all_cons_option P (Some x) rest holds all = (holds, all)

-- one thing stands at one place
pub same_item : {X : Type 0} (xs : List X) (one other : ℕ) (x y : X) → one ≡ other → slice_get xs one ≡ Some x → slice_get xs other ≡ Some y → x ≡ y
same_item xs one other x y same is is_too = cc (same, is, is_too)

-- a list after a write
pub set_here : {X : Type 0} (xs : List X) (place : ℕ) (x : X) → place < length xs → slice_get (slice_set xs place x) place ≡ Some x
set_here [] place x within = absurd (omega arith)
set_here (first ∷ xs) zero x within = refl
set_here (first ∷ xs) (suc place) x within = set_here xs place x (omega arith)

pub set_elsewhere : {X : Type 0} (xs : List X) (place other : ℕ) (x : X) → other ≢ place → slice_get (slice_set xs place x) other ≡ slice_get xs other
set_elsewhere [] place other x differ = refl
set_elsewhere (first ∷ xs) zero zero x differ = absurd (differ refl)
set_elsewhere (first ∷ xs) zero (suc other) x differ = refl
set_elsewhere (first ∷ xs) (suc place) zero x differ = refl
set_elsewhere (first ∷ xs) (suc place) (suc other) x differ = set_elsewhere xs place other x (λ same. differ (ap suc same))

-- one element alone, as a test leaves it
pub filter_kept : {X : Type 0} (p : X → Bool) (x : X) → p x ≡ true → filter p (x ∷ []) ≡ x ∷ []
filter_kept p x is = ap (λ (b : Bool). cond b (x ∷ []) []) is

pub filter_dropped : {X : Type 0} (p : X → Bool) (x : X) → p x ≡ false → filter p (x ∷ []) ≡ []
filter_dropped p x is = ap (λ (b : Bool). cond b (x ∷ []) []) is

-- what passes a test is among those that do
pub filter_Contains : {X : Type 0} (p : X → Bool) (xs : List X) (x : X) → Contains xs x → p x ≡ true → Contains (filter p xs) x
filter_Contains p [] x (place, inside, is) passes = absurd (omega arith)
filter_Contains p (y ∷ ys) x (zero, inside, is) passes =
    let here : p y ≡ true = ap p is ∙ passes in
    subst (λ b. Contains (cond b (y ∷ filter p ys) (filter p ys)) x) (sym here) (0, omega arith, is)
filter_Contains p (y ∷ ys) x (suc place, inside, is) passes =
    let (there, within, same) = filter_Contains p ys x (place, omega arith, is) passes in
    elim (cases_Bool (p y)) [
      | inl here ↦ subst (λ b. Contains (cond b (y ∷ filter p ys) (filter p ys)) x) (sym here) (suc there, omega arith, same)
      | inr gone ↦ subst (λ b. Contains (cond b (y ∷ filter p ys) (filter p ys)) x) (sym gone) (there, within, same)
    ]

-- a number is in a list exactly where a search by it finds it
pub any_Contains : (xs : List ℕ) (number : ℕ) → list_any (λ x. eqb x number) xs ≡ true → Contains xs number
any_Contains [] number is = absurd (cc is)
any_Contains (x ∷ xs) number is = elim (cases_eq x number) [
  | inl same ↦ (0, omega arith, same)
  | inr other ↦
      let (place, inside, there) = any_Contains xs number (sym (ap (λ b. b || list_any (λ y. eqb y number) xs) (ne_eqb x number other)) ∙ is) in
      (suc place, omega arith, there)
]

pub Contains_any : (xs : List ℕ) (number : ℕ) → Contains xs number → list_any (λ x. eqb x number) xs ≡ true
Contains_any [] number (place, inside, is) = absurd (omega arith)
Contains_any (x ∷ xs) number (zero, inside, is) = ap (λ b. b || list_any (λ y. eqb y number) xs) (eq-eqb x number is)
Contains_any (x ∷ xs) number (suc place, inside, is) = elim (cases_eq x number) [
  | inl same ↦ ap (λ b. b || list_any (λ y. eqb y number) xs) (eq-eqb x number same)
  | inr other ↦ ap (λ b. b || list_any (λ y. eqb y number) xs) (ne_eqb x number other) ∙ Contains_any xs number (place, omega arith, is)
]

-- the front of a piece that is filled grows by the front of what is put behind it
pub take_filled : (got more k : ℕ) (piece read : List ℕ) → got ≤ length piece → more ≤ length read → take (got + more) (put_mid got k piece read) ≡ take got piece ++ take more read
take_filled got more k piece read room within =
    let front : length (take got piece) ≡ got = length-take-le got piece room in
    let all : take (got + length read) (put_mid got k piece read) ≡ take got piece ++ read = take-put_mid got k piece read _ refl room in
    let part : take (got + more) (take (got + length read) (put_mid got k piece read)) ≡ take (got + more) (put_mid got k piece read) =
    take-take _ _ _ (omega arith) in
    let cut : take (length (take got piece) + more) (take got piece ++ read) ≡ take got piece ++ take more read = take-append-add (take got piece) read more in
    let Family : ℕ → Type 0 = λ n. take (n + more) (take got piece ++ read) ≡ take got piece ++ take more read in
    sym part ∙ ap (take (got + more)) all ∙ subst Family front cut

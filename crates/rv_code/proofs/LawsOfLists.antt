-- Lists in order: what `ordered` and `rising` have, and which lists they are.
use Rattle.std.proofs.Common.{◌≡◌, ℕ, zero, suc, ◌+◌, ◌<◌, ◌≤◌, true, false, cond, eqb, leb, List, [], ◌∷◌, length, get_or, map, Some, sym, refl, ap, ◌∙◌, subst, inl, inr, arith, rules, add-one, zero-add}
use Rattle.std.specs.Prelude.{◌⊎◌, ◌≢◌, ⊤, slice_get}
use Rattle.std.specs.List.{AllPairs, Contains, dedup, filter}
use Rattle.std.specs.List.Sorted.{IsPermutation, IsSorted, IsSortedByKeyClosure, IsNonDecreasing, IsNonDecreasingBy, IsStrictlyIncreasing}
use Rattle.std.specs.Fn.{Called}
use Rattle.std.specs.List.Retain.{IsFiltered, DiffersFromLast}
use Rattle.std.specs.Ordering.{nat_cmp}
use Rattle.std.proofs.lemmas.Bool.{cases_Bool, cases_eq, cases_lt, leb-true, leb-false, eq-eqb, ne_eqb}
use Rattle.std.proofs.lemmas.List.Sorted.{IsPermutation-refl, IsPermutation-sym, IsPermutation-trans, IsPermutation-cons, IsPermutation-middle, Contains-permutation, sum_by-IsPermutation, IsNonDecreasingBy-from_all_adjacent, IsNonDecreasingBy-from_sort_by_key}
use Rattle.std.proofs.lemmas.List.Filters.{dedup_is}
use Rattle.std.proofs.lemmas.List.Kept.{Contains-dedup_nat, Contains-from_dedup}
use Rattle.std.proofs.lemmas.List.Recursion.{is_sum_by}
use Rattle.std.proofs.lemmas.Map.Keys.{IsStrictlyIncreasing-dedup}
use denote.Ref.{Bor}
use denote.Param.Members.{Mut}
use Rattle.rv_code.specs.Ordered.{put_in, ordered, rising}

-- `put_in` at a list that isn't empty, by the answer of its test
at_test : {X : Type 0} (key : X → ℕ) (x y : X) (ys : List X) (P : List X → Type 0)
    → (key x ≤ key y → P (x ∷ y ∷ ys)) → (key y < key x → P (y ∷ put_in key x ys)) → P (put_in key x (y ∷ ys))
at_test key x y ys P front behind = elim (cases_Bool (leb (key x) (key y))) [
  | inl passes ↦ subst (λ b. P (cond b (x ∷ y ∷ ys) (y ∷ put_in key x ys))) (sym passes) (front (leb-true (key x) (key y) passes))
  | inr fails ↦ subst (λ b. P (cond b (x ∷ y ∷ ys) (y ∷ put_in key x ys))) (sym fails) (behind (leb-false (key x) (key y) fails))
]

put_in-IsPermutation : {X : Type 0} (key : X → ℕ) (x : X) (ys : List X) → IsPermutation (x ∷ ys) (put_in key x ys)
put_in-IsPermutation key x [] = IsPermutation-refl (x ∷ [])
put_in-IsPermutation key x (y ∷ ys) =
    at_test key x y ys (λ zs. IsPermutation (x ∷ y ∷ ys) zs)
    (λ _. IsPermutation-refl (x ∷ y ∷ ys))
    (λ _.
    IsPermutation-trans _ _ _ (IsPermutation-sym _ _ (IsPermutation-middle (y ∷ []) x ys))
    (IsPermutation-cons y _ _ (put_in-IsPermutation key x ys)))

-- the ordered list has the elements of the list
pub ordered-IsPermutation : {X : Type 0} (key : X → ℕ) (xs : List X) → IsPermutation xs (ordered key xs)
ordered-IsPermutation key [] = IsPermutation-refl []
ordered-IsPermutation key (x ∷ xs) =
    IsPermutation-trans _ _ _ (IsPermutation-cons x _ _ (ordered-IsPermutation key xs)) (put_in-IsPermutation key x (ordered key xs))

-- the numbers begin at `low` or above, and none is below the one before
abbrev pub Climbs : {X : Type 0} → (X → ℕ) → ℕ → List X → Type 0
Climbs key low [] = ⊤
Climbs key low (x ∷ xs) = (low ≤ key x) × Climbs key (key x) xs

-- the numbers begin at `low` or above, and each is above the one before
abbrev pub Rises : ℕ → List ℕ → Type 0
Rises low [] = ⊤
Rises low (x ∷ xs) = (low ≤ x) × Rises (x + 1) xs

put_in-Climbs : {X : Type 0} (key : X → ℕ) (low : ℕ) (x : X) (ys : List X) → low ≤ key x → Climbs key low ys → Climbs key low (put_in key x ys)
put_in-Climbs key low x [] h climbs = (h, tt)
put_in-Climbs key low x (y ∷ ys) h climbs =
    at_test key x y ys (Climbs key low)
    (λ below. (h, (below, climbs.1)))
    (λ above. (climbs.0, put_in-Climbs key (key y) x ys (omega arith) climbs.1))

ordered-Climbs : {X : Type 0} (key : X → ℕ) (xs : List X) → Climbs key 0 (ordered key xs)
ordered-Climbs key [] = tt
ordered-Climbs key (x ∷ xs) = put_in-Climbs key 0 x (ordered key xs) (omega arith) (ordered-Climbs key xs)

Climbs-adjacent : {X : Type 0} (key : X → ℕ) (low : ℕ) (xs : List X) (k : ℕ) (d : X) → Climbs key low xs → suc k < length xs → key (get_or xs k d) ≤ key (get_or xs (suc k) d)
Climbs-adjacent key low [] k d climbs inside = absurd (omega arith)
Climbs-adjacent key low (x ∷ []) k d climbs inside = absurd (omega arith)
Climbs-adjacent key low (x ∷ y ∷ xs) zero d climbs inside = climbs.1.0
Climbs-adjacent key low (x ∷ y ∷ xs) (suc k) d climbs inside = Climbs-adjacent key (key x) (y ∷ xs) k d climbs.1 (omega arith)

pub non_decreasing_from_Climbs : {X : Type 0} (key : X → ℕ) (low : ℕ) (xs : List X) → Climbs key low xs → IsNonDecreasingBy key xs
non_decreasing_from_Climbs key low xs climbs =
    IsNonDecreasingBy-from_all_adjacent key xs (λ k d inside. rw add-one (Climbs-adjacent key low xs k d climbs (omega arith)))

-- the numbers of the ordered list don't fall
pub ordered-IsNonDecreasingBy : {X : Type 0} (key : X → ℕ) (xs : List X) → IsNonDecreasingBy key (ordered key xs)
ordered-IsNonDecreasingBy key xs = non_decreasing_from_Climbs key 0 (ordered key xs) (ordered-Climbs key xs)

pub Climbs-from_non_decreasing : {X : Type 0} (key : X → ℕ) (low : ℕ) (xs : List X) → ((d : X) → 0 < length xs → low ≤ key (get_or xs 0 d)) → IsNonDecreasingBy key xs → Climbs key low xs
Climbs-from_non_decreasing key low [] above h = tt
Climbs-from_non_decreasing key low (x ∷ xs) above h = (
  above x (omega arith),
  Climbs-from_non_decreasing key (key x) xs (λ d some. h 0 1 d (omega arith) (omega arith))
      (λ i j d less inside. h (suc i) (suc j) d (omega arith) (omega arith)),
)

pub IsStrictlyIncreasing-from_Rises : (low : ℕ) (xs : List ℕ) → Rises low xs → IsStrictlyIncreasing xs
IsStrictlyIncreasing-from_Rises low [] rises k inside = absurd (omega arith)
IsStrictlyIncreasing-from_Rises low (x ∷ []) rises k inside = absurd (omega arith)
IsStrictlyIncreasing-from_Rises low (x ∷ y ∷ xs) rises zero inside = omega (arith, rises.1.0)
IsStrictlyIncreasing-from_Rises low (x ∷ y ∷ xs) rises (suc k) inside =
    rw add-one (rw add-one at (IsStrictlyIncreasing-from_Rises (x + 1) (y ∷ xs) rises.1 k (omega arith)))

pub Rises-from_IsStrictlyIncreasing : (low : ℕ) (xs : List ℕ) → (0 < length xs → low ≤ get_or xs 0 0) → IsStrictlyIncreasing xs → Rises low xs
Rises-from_IsStrictlyIncreasing low [] above h = tt
Rises-from_IsStrictlyIncreasing low (x ∷ xs) above h = (
  above (omega arith),
  Rises-from_IsStrictlyIncreasing (x + 1) xs (λ some. omega (arith, h 0 (omega arith)))
      (λ k inside. rw add-one (rw add-one at (h (suc k) (omega arith)))),
)

-- what stands at a place of a list that rises is not below its start
pub Rises-slice_get : (low place number : ℕ) (numbers : List ℕ) → Rises low numbers → slice_get numbers place ≡ Some number → low ≤ number
Rises-slice_get low place number [] rises is = absurd (cc is)
Rises-slice_get low zero number (first ∷ numbers) rises is = let same : first ≡ number = cc is in omega (arith, rises.0)
Rises-slice_get low (suc place) number (first ∷ numbers) rises is = omega (arith, rises.0, Rises-slice_get (first + 1) place number numbers rises.1 is)

-- what is in a list with a first element
Contains-first : {X : Type 0} (x y : X) (ys : List X) → x ≡ y → Contains (y ∷ ys) x
Contains-first x y ys same = (0, omega arith, sym same)

Contains-later : {X : Type 0} (x y : X) (ys : List X) → Contains ys x → Contains (y ∷ ys) x
Contains-later x y ys (k, inside, same) = (suc k, omega arith, same)

Contains-cases : {X : Type 0} (x y : X) (ys : List X) → Contains (y ∷ ys) x → (x ≡ y) ⊎ Contains ys x
Contains-cases x y ys (zero, inside, same) = inl (sym same)
Contains-cases x y ys (suc k, inside, same) = inr (k, omega arith, same)

Contains-none : {X : Type 0} (x : X) → Contains [] x → ⊥
Contains-none x (k, inside, same) = absurd (omega arith)

-- each number of a list that rises from `low` is `low` or above
Rises-above : (low : ℕ) (xs : List ℕ) (x : ℕ) → Rises low xs → Contains xs x → low ≤ x
Rises-above low [] x rises within = absurd (Contains-none x within)
Rises-above low (y ∷ ys) x rises within = elim (Contains-cases x y ys within) [
  | inl same ↦ omega (arith, rises.0)
  | inr later ↦ omega (arith, rises.0, Rises-above (y + 1) ys x rises.1 later)
]

-- what rises and is contained, at the rest of two lists with one first number
rest-Contains : (x y : ℕ) (xs ys : List ℕ) → x ≡ y → Rises (x + 1) xs → ((z : ℕ) → Contains (x ∷ xs) z → Contains (y ∷ ys) z) → (z : ℕ) → Contains xs z → Contains ys z
rest-Contains x y xs ys same rises within z here = elim (Contains-cases z y ys (within z (Contains-later z x xs here))) [
  | inl first ↦ absurd (omega (arith, Rises-above (x + 1) xs z rises here))
  | inr later ↦ later
]

Rises-same : (low : ℕ) (xs ys : List ℕ) → Rises low xs → Rises low ys
    → ((x : ℕ) → Contains xs x → Contains ys x) → ((x : ℕ) → Contains ys x → Contains xs x) → xs ≡ ys
Rises-same low [] [] xs_rise ys_rise to from = refl
Rises-same low [] (y ∷ ys) xs_rise ys_rise to from = absurd (Contains-none y (from y (Contains-first y y ys refl)))
Rises-same low (x ∷ xs) [] xs_rise ys_rise to from = absurd (Contains-none x (to x (Contains-first x x xs refl)))
Rises-same low (x ∷ xs) (y ∷ ys) xs_rise ys_rise to from =
    let not_below : y ≤ x = Rises-above y (y ∷ ys) x (omega arith, ys_rise.1) (to x (Contains-first x x xs refl)) in
    let not_above : x ≤ y = Rises-above x (x ∷ xs) y (omega arith, xs_rise.1) (from y (Contains-first y y ys refl)) in
    let same : x ≡ y = omega arith in
    let ys_above : Rises (x + 1) ys = subst (λ n. Rises (n + 1) ys) (sym same) ys_rise.1 in
    let rest : xs ≡ ys =
    Rises-same (x + 1) xs ys xs_rise.1 ys_above
    (rest-Contains x y xs ys same xs_rise.1 to) (rest-Contains y x ys xs (sym same) ys_rise.1 from)
    in
    cc

-- two lists of numbers that rise and have the same numbers are one
pub increasing_same : (xs ys : List ℕ) → IsStrictlyIncreasing xs → IsStrictlyIncreasing ys
    → ((x : ℕ) → Contains xs x → Contains ys x) → ((x : ℕ) → Contains ys x → Contains xs x) → xs ≡ ys
increasing_same xs ys xs_rise ys_rise to from =
    Rises-same 0 xs ys (Rises-from_IsStrictlyIncreasing 0 xs (λ _. omega arith) xs_rise) (Rises-from_IsStrictlyIncreasing 0 ys (λ _. omega arith) ys_rise) to from

-- the form in which a sort says that numbers don't fall
IsSorted-from_non_decreasing : (xs : List ℕ) → IsNonDecreasing xs → IsSorted nat_cmp xs
IsSorted-from_non_decreasing xs h k d above inside =
    let next : get_or xs k d ≤ get_or xs (k + 1) d = h k (k + 1) d (omega arith) (omega arith) in search rules

-- the numbers of `rising` rise
pub rising-IsStrictlyIncreasing : (xs : List ℕ) → IsStrictlyIncreasing (rising xs)
rising-IsStrictlyIncreasing xs =
    IsStrictlyIncreasing-dedup (ordered (λ n. n) xs) (IsSorted-from_non_decreasing (ordered (λ n. n) xs) (ordered-IsNonDecreasingBy (λ n. n) xs))

-- and are exactly those of the list
pub rising-Contains : (xs : List ℕ) (x : ℕ) → Contains xs x → Contains (rising xs) x
rising-Contains xs x within =
    Contains-dedup_nat (ordered (λ n. n) xs) x (Contains-permutation xs (ordered (λ n. n) xs) x (ordered-IsPermutation (λ n. n) xs) within)

pub Contains-from_rising : (xs : List ℕ) (x : ℕ) → Contains (rising xs) x → Contains xs x
Contains-from_rising xs x within =
    Contains-permutation (ordered (λ n. n) xs) xs x (IsPermutation-sym _ _ (ordered-IsPermutation (λ n. n) xs))
    (Contains-from_dedup eqb (ordered (λ n. n) xs) x within)

-- a list that rises and has exactly the numbers of xs is `rising xs`
pub is_rising : (xs ys : List ℕ) → IsStrictlyIncreasing ys → ((x : ℕ) → Contains xs x → Contains ys x) → ((x : ℕ) → Contains ys x → Contains xs x) → ys ≡ rising xs
is_rising xs ys rise to from =
    increasing_same ys (rising xs) rise (rising-IsStrictlyIncreasing xs)
    (λ x within. rising-Contains xs x (from x within)) (λ x within. to x (Contains-from_rising xs x within))

-- what `sort_unstable` and then `dedup` leave of a vector of numbers
pub rising_from_sort : (xs sorted ys : List ℕ) → IsPermutation xs sorted → IsSorted nat_cmp sorted → IsFiltered (DiffersFromLast eqb) [] sorted ys → ys ≡ rising xs
rising_from_sort xs sorted ys moved in_order filtered =
    let left : ys ≡ dedup eqb sorted = dedup_is eqb sorted ys filtered in
    left ∙ is_rising xs (dedup eqb sorted) (IsStrictlyIncreasing-dedup sorted in_order)
    (λ x within. Contains-dedup_nat sorted x (Contains-permutation xs sorted x moved within))
    (λ x within. Contains-permutation sorted xs x (IsPermutation-sym xs sorted moved) (Contains-from_dedup eqb sorted x within))

-- how many elements have this number
abbrev copies : {X : Type 0} → (X → ℕ) → ℕ → List X → ℕ
copies key number [] = 0
copies key number (x ∷ xs) = cond (eqb (key x) number) 1 0 + copies key number xs

copies-IsPermutation : {X : Type 0} (key : X → ℕ) (number : ℕ) (xs ys : List X) → IsPermutation xs ys → copies key number ys ≡ copies key number xs
copies-IsPermutation key number xs ys moved =
    let f : _ → ℕ = λ x. cond (eqb (key x) number) 1 0 in
    is_sum_by (copies key number) f refl (λ _ _. refl) ys
    ∙ sum_by-IsPermutation f xs ys moved
    ∙ sym (is_sum_by (copies key number) f refl (λ _ _. refl) xs)

copies-first : {X : Type 0} (key : X → ℕ) (x : X) (xs : List X) → copies key (key x) (x ∷ xs) ≡ 1 + copies key (key x) xs
copies-first key x xs = ap (λ b. cond b 1 0 + copies key (key x) xs) (eq-eqb (key x) (key x) refl)

copies-none : {X : Type 0} (key : X → ℕ) (low number : ℕ) (xs : List X) → Climbs key low xs → number < low → copies key number xs ≡ 0
copies-none key low number [] climbs below = refl
copies-none key low number (x ∷ xs) climbs below =
    ap (λ b. cond b 1 0 + copies key number xs) (ne_eqb (key x) number (λ same. omega arith))
    ∙ (omega (arith, copies-none key (key x) number xs climbs.1 (omega (arith, climbs.0))))

copies-some : {X : Type 0} (key : X → ℕ) (number : ℕ) (xs : List X) (x : X) → Contains xs x → key x ≡ number → 0 < copies key number xs
copies-some key number [] x within is = absurd (Contains-none x within)
copies-some key number (y ∷ ys) x within is = elim (Contains-cases x y ys within) [
  | inl same ↦
      let test : eqb (key y) number ≡ true = eq-eqb (key y) number (ap key (sym same) ∙ is) in
      subst (λ b. 0 < cond b 1 0 + copies key number ys) (sym test) (omega arith)
  | inr later ↦ omega (arith, copies-some key number ys x later is)
]

Climbs-above : {X : Type 0} (key : X → ℕ) (low : ℕ) (xs : List X) (x : X) → Climbs key low xs → Contains xs x → low ≤ key x
Climbs-above key low [] x climbs within = absurd (Contains-none x within)
Climbs-above key low (y ∷ ys) x climbs within = elim (Contains-cases x y ys within) [
  | inl same ↦ let keys : key x ≡ key y = ap key same in omega (arith, climbs.0)
  | inr later ↦ omega (arith, climbs.0, Climbs-above key (key y) ys x climbs.1 later)
]

-- Two lists in order, of which the first has each element of the second, and both have each number as often, at most once.
record AreAlike {X : Type 0} (key : X → ℕ) (ys zs : List X) : Type 0 where
  within : (z : X) → Contains zs z → Contains ys z
  counts : (number : ℕ) → copies key number ys ≡ copies key number zs
  once : (number : ℕ) → copies key number ys ≤ 1

first-same : {X : Type 0} (key : X → ℕ) (low other : ℕ) (y z : X) (ys zs : List X) → Climbs key low (y ∷ ys) → Climbs key other (z ∷ zs) → AreAlike key (y ∷ ys) (z ∷ zs) → z ≡ y
first-same key low other y z ys zs ys_climb zs_climb alike =
    let one = copies-first key y ys in
    let once = alike.once (key y) in
    let counts = alike.counts (key y) in
    elim (Contains-cases z y ys (alike.within z (Contains-first z z zs refl))) [
      | inl same ↦ same
      | inr later ↦ elim (cases_eq (key z) (key y)) [
        | inl tie ↦ absurd (omega (arith, one, once, copies-some key (key y) ys z later tie))
        | inr apart ↦
            let above : key y ≤ key z = Climbs-above key (key y) ys z ys_climb.1 later in
            let below : key y < key z = elim (cases_eq (key y) (key z)) [ inl tie ↦ absurd (apart (sym tie)) | inr _ ↦ omega arith ] in
            let none : copies key (key y) (z ∷ zs) ≡ 0 = copies-none key (key z) (key y) (z ∷ zs) (omega arith, zs_climb.1) below in
            absurd (omega (arith, one, counts, none))
      ]
    ]

rest-AreAlike : {X : Type 0} (key : X → ℕ) (y z : X) (ys zs : List X) → z ≡ y → AreAlike key (y ∷ ys) (z ∷ zs) → AreAlike key ys zs
rest-AreAlike key y z ys zs same alike =
    let key_same : key z ≡ key y = ap key same in
    let counts : (number : ℕ) → copies key number ys ≡ copies key number zs =
    λ number.
    let both : cond (eqb (key y) number) 1 0 + copies key number ys ≡ cond (eqb (key y) number) 1 0 + copies key number zs =
    subst (λ n. cond (eqb (key y) number) 1 0 + copies key number ys ≡ cond (eqb n number) 1 0 + copies key number zs) key_same (alike.counts number)
    in
    omega (arith, both)
    in
    record {
      within = λ w here. elim (Contains-cases w y ys (alike.within w (Contains-later w z zs here))) [
        | inl first ↦
            absurd (omega (arith, copies-some key (key y) zs w here (ap key first), counts (key y), copies-first key y ys, alike.once (key y)))
        | inr later ↦ later
      ];
      counts = counts;
      once = λ number. omega (arith, alike.once number);
    }

alike_same : {X : Type 0} (key : X → ℕ) (low other : ℕ) (ys zs : List X) → Climbs key low ys → Climbs key other zs → AreAlike key ys zs → ys ≡ zs
alike_same key low other [] [] ys_climb zs_climb alike = refl
alike_same key low other [] (z ∷ zs) ys_climb zs_climb alike = absurd (Contains-none z (alike.within z (Contains-first z z zs refl)))
alike_same key low other (y ∷ ys) [] ys_climb zs_climb alike =
    absurd (omega (arith, copies-first key y ys, alike.counts (key y)))
alike_same key low other (y ∷ ys) (z ∷ zs) ys_climb zs_climb alike =
    let same : z ≡ y = first-same key low other y z ys zs ys_climb zs_climb alike in
    let rest : ys ≡ zs = alike_same key (key y) (key z) ys zs ys_climb.1 zs_climb.1 (rest-AreAlike key y z ys zs same alike) in
    cc

ordered_from_once : {X : Type 0} (key : X → ℕ) (xs ys : List X) → IsPermutation xs ys → IsNonDecreasingBy key ys → ((number : ℕ) → copies key number xs ≤ 1) → ys ≡ ordered key xs
ordered_from_once key xs ys moved climbs once =
    alike_same key 0 0 ys (ordered key xs)
    (Climbs-from_non_decreasing key 0 ys (λ d _. omega arith) climbs)
    (ordered-Climbs key xs)
    (record {
      within = λ z here. Contains-permutation xs ys z moved (Contains-permutation (ordered key xs) xs z (IsPermutation-sym _ _ (ordered-IsPermutation key xs)) here);
      counts = λ number. copies-IsPermutation key number xs ys moved ∙ sym (copies-IsPermutation key number xs (ordered key xs) (ordered-IsPermutation key xs));
      once = λ number. rw (copies-IsPermutation key number xs ys moved) (once number);
    })

copies-absent : {X : Type 0} (key : X → ℕ) (number : ℕ) (xs : List X) → ((k : ℕ) (d : X) → k < length xs → number ≢ key (get_or xs k d)) → copies key number xs ≡ 0
copies-absent key number [] absent = refl
copies-absent key number (x ∷ xs) absent =
    ap (λ b. cond b 1 0 + copies key number xs) (ne_eqb (key x) number (λ same. absent 0 x (omega arith) (sym same)))
    ∙ (omega (arith, copies-absent key number xs (λ k d inside. absent (suc k) d (omega arith))))

copies-once : {X : Type 0} (key : X → ℕ) (xs : List X) → AllPairs (λ x y. key x ≢ key y) xs → (number : ℕ) → copies key number xs ≤ 1
copies-once key [] apart number = omega arith
copies-once key (x ∷ xs) apart number = elim (cases_eq (key x) number) [
  | inl same ↦
      let none : copies key (key x) xs ≡ 0 = copies-absent key (key x) xs (λ k d inside. apart 0 (suc k) d (omega arith) (omega arith)) in
      let one : copies key (key x) (x ∷ xs) ≤ 1 = omega (arith, none, copies-first key x xs) in
      subst (λ n. copies key n (x ∷ xs) ≤ 1) same one
  | inr other ↦
      let none : copies key number (x ∷ xs) ≡ copies key number xs = ap (λ b. cond b 1 0 + copies key number xs) (ne_eqb (key x) number other) ∙ zero-add (copies key number xs) in
      omega (arith, none, copies-once key xs (λ i j d less inside. apart (suc i) (suc j) d (omega arith) (omega arith)) number)
]

-- Where no two elements of xs have one number, a list of its elements whose numbers don't fall is `ordered key xs`.
pub ordered_from_apart : {X : Type 0} (key : X → ℕ) (xs ys : List X) → IsPermutation xs ys → IsNonDecreasingBy key ys → AllPairs (λ x y. key x ≢ key y) xs → ys ≡ ordered key xs
ordered_from_apart key xs ys moved climbs apart = ordered_from_once key xs ys moved climbs (copies-once key xs apart)

pub Climbs-lower : {X : Type 0} (key : X → ℕ) (low high : ℕ) (xs : List X) → low ≤ high → Climbs key high xs → Climbs key low xs
Climbs-lower key low high [] below climbs = tt
Climbs-lower key low high (x ∷ xs) below climbs = (omega (arith, climbs.0), climbs.1)

Climbs-from_Rises : {X : Type 0} (key : X → ℕ) (low : ℕ) (xs : List X) → Rises low (map key xs) → Climbs key low xs
Climbs-from_Rises key low [] rises = tt
Climbs-from_Rises key low (x ∷ xs) rises =
    (rises.0, Climbs-lower key (key x) (key x + 1) xs (omega arith) (Climbs-from_Rises key (key x + 1) xs rises.1))

Rises-once : {X : Type 0} (key : X → ℕ) (low : ℕ) (xs : List X) → Rises low (map key xs) → (number : ℕ) → copies key number xs ≤ 1
Rises-once key low [] rises number = omega arith
Rises-once key low (x ∷ xs) rises number = elim (cases_eq (key x) number) [
  | inl same ↦
      let none : copies key (key x) xs ≡ 0 = copies-none key (key x + 1) (key x) xs (Climbs-from_Rises key (key x + 1) xs rises.1) (omega arith) in
      let one : copies key (key x) (x ∷ xs) ≤ 1 = omega (arith, none, copies-first key x xs) in
      subst (λ n. copies key n (x ∷ xs) ≤ 1) same one
  | inr other ↦
      let none : copies key number (x ∷ xs) ≡ copies key number xs = ap (λ b. cond b 1 0 + copies key number xs) (ne_eqb (key x) number other) ∙ zero-add (copies key number xs) in
      omega (arith, none, Rises-once key (key x + 1) xs rises.1 number)
]

-- A list of the elements of xs whose numbers rise is `ordered key xs`.
pub ordered_from_increasing : {X : Type 0} (key : X → ℕ) (xs ys : List X) → IsPermutation xs ys → IsStrictlyIncreasing (map key ys) → ys ≡ ordered key xs
ordered_from_increasing key xs ys moved increasing =
    let rises : Rises 0 (map key ys) = Rises-from_IsStrictlyIncreasing 0 (map key ys) (λ _. omega arith) increasing in
    ordered_from_once key xs ys moved
    (non_decreasing_from_Climbs key 0 ys (Climbs-from_Rises key 0 ys rises))
    (λ number. rw (← copies-IsPermutation key number xs ys moved) (Rises-once key 0 ys rises number))

-- the elements of one number
abbrev with_number : {X : Type 0} → (X → ℕ) → ℕ → List X → List X
with_number key number xs = filter (λ x. eqb (key x) number) xs

put_in-filter : {X : Type 0} (key : X → ℕ) (number : ℕ) (x : X) (ys : List X)
    → with_number key number (put_in key x ys) ≡ with_number key number (x ∷ ys)
put_in-filter key number x [] = refl
put_in-filter key number x (y ∷ ys) =
    at_test key x y ys (λ zs. with_number key number zs ≡ with_number key number (x ∷ y ∷ ys))
    (λ _. refl)
    (λ above.
    ap (λ zs. cond (eqb (key y) number) (y ∷ zs) zs) (put_in-filter key number x ys)
    ∙ exchanged key number x y (with_number key number ys) above)
  where
    exchanged : {X : Type 0} (key : X → ℕ) (number : ℕ) (x y : X) (ys : List X) → key y < key x
        → cond (eqb (key y) number) (y ∷ cond (eqb (key x) number) (x ∷ ys) ys) (cond (eqb (key x) number) (x ∷ ys) ys)
        ≡ cond (eqb (key x) number) (x ∷ cond (eqb (key y) number) (y ∷ ys) ys) (cond (eqb (key y) number) (y ∷ ys) ys)
    exchanged key number x y ys above = elim (cases_eq (key y) number) [
      | inl tie ↦ rw (ne_eqb (key x) number (λ same. omega arith))
      | inr apart ↦ rw (ne_eqb (key y) number apart)
    ]

-- elements with equal numbers stay as they stood
pub ordered-filter : {X : Type 0} (key : X → ℕ) (number : ℕ) (xs : List X)
    → filter (λ x. eqb (key x) number) (ordered key xs) ≡ filter (λ x. eqb (key x) number) xs
ordered-filter key number [] = refl
ordered-filter key number (x ∷ xs) =
    put_in-filter key number x (ordered key xs) ∙ ap (λ zs. cond (eqb (key x) number) (x ∷ zs) zs) (ordered-filter key number xs)

-- what the elements of one number are at a list with a first element
with_number-here : {X : Type 0} (key : X → ℕ) (x : X) (xs : List X) → with_number key (key x) (x ∷ xs) ≡ x ∷ with_number key (key x) xs
with_number-here key x xs = rw (eq-eqb (key x) (key x) refl)

with_number-none : {X : Type 0} (key : X → ℕ) (low number : ℕ) (xs : List X) → Climbs key low xs → number < low → with_number key number xs ≡ []
with_number-none key low number [] climbs below = refl
with_number-none key low number (x ∷ xs) climbs below =
    rw (ne_eqb (key x) number (λ same. omega (arith, climbs.0))) (with_number-none key (key x) number xs climbs.1 (omega (arith, climbs.0)))

first-not_below : {X : Type 0} (key : X → ℕ) (low : ℕ) (y z : X) (ys zs : List X) → Climbs key low (z ∷ zs)
    → with_number key (key y) (y ∷ ys) ≡ with_number key (key y) (z ∷ zs) → key z ≤ key y
first-not_below key low y z ys zs climbs alike = elim (cases_lt (key y) (key z)) [
  | inl below ↦
      let none : with_number key (key y) (z ∷ zs) ≡ [] = with_number-none key (key z) (key y) (z ∷ zs) (omega arith, climbs.1) below in
      let some : y ∷ with_number key (key y) ys ≡ [] = sym (with_number-here key y ys) ∙ (alike ∙ none) in
      absurd (cc)
  | inr not_below ↦ not_below
]

rest-with_number : {X : Type 0} (key : X → ℕ) (number : ℕ) (y z : X) (ys zs : List X) → y ≡ z
    → with_number key number (y ∷ ys) ≡ with_number key number (z ∷ zs) → with_number key number ys ≡ with_number key number zs
rest-with_number key number y z ys zs same alike = elim (cases_Bool (eqb (key y) number)) [
  | inl here ↦
      let one : with_number key number (y ∷ ys) ≡ y ∷ with_number key number ys = rw here in
      let other : with_number key number (z ∷ zs) ≡ z ∷ with_number key number zs = rw (subst (λ w. eqb (key w) number ≡ true) same here) in
      cc
  | inr apart ↦
      let one : with_number key number (y ∷ ys) ≡ with_number key number ys = rw apart in
      let other : with_number key number (z ∷ zs) ≡ with_number key number zs = rw (subst (λ w. eqb (key w) number ≡ false) same apart) in
      cc
]

stable-same : {X : Type 0} (key : X → ℕ) (low other : ℕ) (ys zs : List X) → Climbs key low ys → Climbs key other zs
    → ((number : ℕ) → with_number key number ys ≡ with_number key number zs) → ys ≡ zs
stable-same key low other [] [] ys_climb zs_climb alike = refl
stable-same key low other [] (z ∷ zs) ys_climb zs_climb alike =
    let some : [] ≡ z ∷ with_number key (key z) zs = alike (key z) ∙ with_number-here key z zs in absurd (cc)
stable-same key low other (y ∷ ys) [] ys_climb zs_climb alike =
    let some : y ∷ with_number key (key y) ys ≡ [] = sym (with_number-here key y ys) ∙ alike (key y) in absurd (cc)
stable-same key low other (y ∷ ys) (z ∷ zs) ys_climb zs_climb alike =
    let below : key z ≤ key y = first-not_below key other y z ys zs zs_climb (alike (key y)) in
    let above : key y ≤ key z = first-not_below key low z y zs ys ys_climb (sym (alike (key z))) in
    let keys : key z ≡ key y = omega arith in
    let firsts : y ∷ with_number key (key y) ys ≡ z ∷ with_number key (key y) zs =
    sym (with_number-here key y ys) ∙ (alike (key y) ∙ subst (λ n. with_number key n (z ∷ zs) ≡ z ∷ with_number key n zs) keys (with_number-here key z zs))
    in
    let same : y ≡ z = cc in
    let rest : ys ≡ zs =
    stable-same key (key y) (key z) ys zs ys_climb.1 zs_climb.1 (λ number. rest-with_number key number y z ys zs same (alike number))
    in
    cc

-- A list whose numbers don't fall, with the elements of each number as they stand in xs, is `ordered key xs`.
pub ordered_from_stable : {X : Type 0} (key : X → ℕ) (xs ys : List X) → IsNonDecreasingBy key ys
    → ((number : ℕ) → filter (λ x. eqb (key x) number) ys ≡ filter (λ x. eqb (key x) number) xs) → ys ≡ ordered key xs
ordered_from_stable key xs ys climbs stable =
    stable-same key 0 0 ys (ordered key xs)
    (Climbs-from_non_decreasing key 0 ys (λ d _. omega arith) climbs)
    (ordered-Climbs key xs)
    (λ number. stable number ∙ sym (ordered-filter key number xs))

-- What `sort_unstable_by_key` leaves, where each call of its closure gives `key` of the element, and no two elements have one number.
pub ordered_from_sort_by_key : {X F : Type 0} {g : Mut F (Bor X × Unit {0}) ℕ} {f : F} (key : X → ℕ) (xs ys : List X)
    → IsPermutation xs ys → IsSortedByKeyClosure g nat_cmp f ys
    → ((a : Bor X × Unit {0}) (r : ℕ) (f' : F) → Called g f a r f' → (r ≡ key a.0.now) × (f' ≡ f))
    → AllPairs (λ x y. key x ≢ key y) xs → ys ≡ ordered key xs
ordered_from_sort_by_key key xs ys moved in_order gives apart =
    ordered_from_apart key xs ys moved (IsNonDecreasingBy-from_sort_by_key key ys in_order gives) apart

-- Rows that are made one after the other, and the first of some numbers of which a test holds: laws of lists, named by the crates
-- that read tables.
use Rattle.std.proofs.Common.{◌≡◌, ℕ, zero, suc, ◌+◌, ◌-◌, ◌<◌, Bool, true, false, cond, List, [], ◌∷◌, ◌++◌, Option, None, Some, map, refl, sym, ap, ◌∙◌, append_assoc, arith}
use Rattle.std.specs.List.{find, flat_map, range_with_len}
use Rattle.std.specs.Option.{option_map, option_or}
use Rattle.std.proofs.lemmas.List.{flat_map_more}
use Rattle.std.proofs.lemmas.List.FromFn.{map-range_with_len_more}

-- one number more in a range
range_more : (from count : ℕ) → range_with_len from (suc count) ≡ range_with_len from count ++ (from + count) ∷ []
range_more from zero = let here : from ≡ from + 0 = omega arith in ap (λ (k : ℕ). k ∷ []) here
range_more from (suc count) =
    let there : from + 1 + count ≡ from + suc count = omega arith in
    ap (λ (xs : List ℕ). from ∷ xs) (range_more (from + 1) count ∙ ap (λ k. range_with_len (from + 1) count ++ k ∷ []) there)

-- one row more behind those so far and what came before
pub row_more : {X : Type 0} (f : ℕ → X) (before now next : List X) (count : ℕ) (last : X) → now ≡ before ++ map f (range_with_len 0 count) → next ≡ now ++ last ∷ [] → last ≡ f count
    → next ≡ before ++ map f (range_with_len 0 (count + 1))
row_more f before now next count last so_far pushed is =
    pushed
    ∙ (λ i. so_far i ++ is i ∷ [])
    ∙ append_assoc before (map f (range_with_len 0 count)) (f count ∷ [])
    ∙ ap (λ xs. before ++ xs) (sym (map-range_with_len_more f 0 count count (omega arith)))

-- the rows of one more number behind those so far
pub rows_more : {X : Type 0} (f : ℕ → List X) (now next : List X) (count : ℕ) → now ≡ flat_map f (range_with_len 0 count) → next ≡ now ++ f count
    → next ≡ flat_map f (range_with_len 0 (count + 1))
rows_more f now next count so_far added =
    let more : count + 1 ≡ suc count = omega arith in
    let here : 0 + count ≡ count = omega arith in
    added
    ∙ ap (λ xs. xs ++ f count) so_far
    ∙ flat_map_more f [] (range_with_len 0 count) count
    ∙ ap (flat_map f) (sym (range_more 0 count ∙ ap (λ k. range_with_len 0 count ++ k ∷ []) here))
    ∙ ap (λ k. flat_map f (range_with_len 0 k)) (sym more)

-- a search through numbers, one number further
at_front : (p : ℕ → Bool) (number count : ℕ) → number < count
    → find p (range_with_len number (count - number)) ≡ cond (p number) (Some number) (find p (range_with_len (number + 1) (count - (number + 1))))
at_front p number count left =
    let one : count - number ≡ suc (count - (number + 1)) = omega arith in ap (λ k. find p (range_with_len number k)) one

pub found_here : (p : ℕ → Bool) (number count : ℕ) → number < count → p number ≡ true → find p (range_with_len number (count - number)) ≡ Some number
found_here p number count left here =
    at_front p number count left ∙ ap (λ t. cond t (Some number) (find p (range_with_len (number + 1) (count - (number + 1))))) here

pub found_later : (p : ℕ → Bool) (number count : ℕ) → number < count → p number ≡ false
    → find p (range_with_len number (count - number)) ≡ find p (range_with_len (number + 1) (count - (number + 1)))
found_later p number count left here =
    at_front p number count left ∙ ap (λ t. cond t (Some number) (find p (range_with_len (number + 1) (count - (number + 1))))) here

-- an answer of None is that of each search and each choice that leads to it
pub none_left : {X : Type 0} (t : Bool) (x : X) (rest : Option X) → cond t (Some x) rest ≡ None → (t ≡ false) × (rest ≡ None)
none_left true x rest is = absurd (cc is)
none_left false x rest is = (refl, is)

pub none_mapped : {X Y : Type 0} (f : X → Y) (o : Option X) → option_map f o ≡ None → o ≡ None
none_mapped f None is = refl
none_mapped f (Some x) is = absurd (cc is)

pub none_first : {X : Type 0} (first second : Option X) → option_or first second ≡ None → first ≡ None
none_first None second is = refl
none_first (Some x) second is = absurd (cc is)

pub none_second : {X : Type 0} (first second : Option X) → option_or first second ≡ None → second ≡ None
none_second None second is = is
none_second (Some x) second is = absurd (cc is)

-- a search through numbers that finds none
pub none_found : (p : ℕ → Bool) (from count place : ℕ) → find p (range_with_len from count) ≡ None → place < count → p (from + place) ≡ false
none_found p from zero place none within = absurd (omega arith)
none_found p from (suc count) zero none within =
    let here : from ≡ from + 0 = omega arith in
    ap p (sym here) ∙ (none_left (p from) from (find p (range_with_len (from + 1) count)) none).0
none_found p from (suc count) (suc place) none within =
    let there : from + 1 + place ≡ from + suc place = omega arith in
    ap p (sym there) ∙ none_found p (from + 1) count place (none_left (p from) from (find p (range_with_len (from + 1) count)) none).1 (omega arith)

pub each_fails : (p : ℕ → Bool) (count : ℕ) → find p (range_with_len 0 count) ≡ None → (number : ℕ) → number < count → p number ≡ false
each_fails p count none number within =
    let here : number ≡ 0 + number = omega arith in ap p here ∙ none_found p 0 count number none within

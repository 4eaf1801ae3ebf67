-- Rows of edges, and the edges of a row that wait.
use Rattle.std.proofs.Common.{◌≡◌, ℕ, ◌+◌, ◌<◌, ◌≤◌, List, [], ◌∷◌, ◌++◌, length, get_or, map, take, sym, ap, ◌∙◌, subst}
use Rattle.std.specs.List.Sorted.{IsPermutation}
use Rattle.std.proofs.lemmas.List.{take_more, take_all, map-append, append-nil, append_assoc}
use Rattle.std.proofs.lemmas.List.Sorted.{IsPermutation-refl, IsPermutation-push_more}
use Rattle.flow_tree.specs.declared.waiting.Ranked.{Ranked}
use Rattle.flow_tree.specs.Inner.Growing.{ranked_of}

pub first_waits : (waiting : List Ranked) → IsPermutation (waiting ++ []) waiting
first_waits waiting = subst (λ (xs : List Ranked). IsPermutation xs waiting) (sym (append-nil waiting)) (IsPermutation-refl waiting)

pub more_waits : (weights : List ℕ) (old now new : List Ranked) (row : List ℕ) (place : ℕ) (item : Ranked) → place < length row → item ≡ ranked_of weights (get_or row place 0)
    → IsPermutation (old ++ map (ranked_of weights) (take place row)) now → IsPermutation (item ∷ now) new
    → IsPermutation (old ++ map (ranked_of weights) (take (place + 1) row)) new
more_waits weights old now new row place item within is before put =
    let more : take (place + 1) row ≡ take place row ++ get_or row place 0 ∷ [] = take_more row place 0 within in
    let put_is : IsPermutation (ranked_of weights (get_or row place 0) ∷ now) new = subst (λ (x : Ranked). IsPermutation (x ∷ now) new) is put in
    let same : (old ++ map (ranked_of weights) (take place row)) ++ ranked_of weights (get_or row place 0) ∷ [] ≡ old ++ map (ranked_of weights) (take (place + 1) row) =
    append_assoc old (map (ranked_of weights) (take place row)) (ranked_of weights (get_or row place 0) ∷ [])
    ∙ ap (λ (xs : List Ranked). old ++ xs) (sym (map-append (ranked_of weights) (take place row) (get_or row place 0 ∷ [])) ∙ ap (map (ranked_of weights)) (sym more))
    in
    subst (λ (xs : List Ranked). IsPermutation xs new) same (IsPermutation-push_more _ now new (ranked_of weights (get_or row place 0)) before put_is)

pub all_wait : (weights : List ℕ) (old now : List Ranked) (row : List ℕ) (place : ℕ) → length row ≤ place
    → IsPermutation (old ++ map (ranked_of weights) (take place row)) now → IsPermutation (old ++ map (ranked_of weights) row) now
all_wait weights old now row place past before =
    subst (λ (xs : List ℕ). IsPermutation (old ++ map (ranked_of weights) xs) now) (take_all place row past) before

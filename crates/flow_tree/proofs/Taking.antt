-- What a block that is taken into a forest changes, where no memory was wanting.
use Rattle.std.proofs.Common.{◌≡◌, ℕ, ◌+◌, ◌<◌, Bool, true, false, List, [], ◌++◌, length, get_or, map, Option, Some, Result, Ok, Err, refl, sym, ap, ◌∙◌, subst, inl, inr, arith, length-append}
use Rattle.std.specs.Prelude.{slice_get, slice_set, OnOk}
use Rattle.std.specs.List.Sorted.{IsPermutation}
use Rattle.std.proofs.lemmas.Bool.{cases_eq}
use Rattle.std.proofs.lemmas.List.{length-map}
use Rattle.std.proofs.lemmas.List.Sorted.{length_permutation}
use Rattle.std.proofs.lemmas.Option.{slice_get_within, slice_get_read}
use Rattle.std.specs.Option.{option_map_or}
use Rattle.std.specs.declared.alloc.Global.{Global}
use Rattle.std.specs.declared.vec.Vec.{Vec}
use Rattle.rv_code.proofs.LawsOfElements.{set_here, set_elsewhere}
use Rattle.flow_graph.specs.declared.edge.Edge.{Edge}
use Rattle.flow_tree.specs.declared.waiting.Ranked.{Ranked}
use Rattle.flow_tree.specs.Inner.Growing.{row_of, ranked_of, IsGrown, StaysGrown, rows_left}
use Rattle.flow_tree.proofs.RowsLeft.{left_without}

-- what follows from two clauses on an `Ok`
pub on_both : {T E A B C : Type 0} (r : Result T E) → (A → B → C) → OnOk r A → OnOk r B → OnOk r C
on_both (Ok value) gives one other = gives one other
on_both (Err fault) gives one other = tt

-- the row that is read at a block is that of the block
pub row_read : (rows : List (Vec ℕ Global)) (block : ℕ) (row : Vec ℕ Global) → block < length rows → row ≡ get_or rows block row → row_of rows block ≡ row.items
row_read rows block row within is = ap (λ (found : Option (Vec ℕ Global)). option_map_or (λ (r : Vec ℕ Global). r.items) found []) (slice_get_read rows (length rows) block row refl within is)

pub stays_set : (grown : List Bool) (beyond : ℕ) → beyond < length grown → StaysGrown grown (slice_set grown beyond true)
stays_set grown beyond within block on = elim (cases_eq block beyond) [
  | inl same ↦ subst (IsGrown (slice_set grown beyond true)) (sym same) (set_here grown beyond true within)
  | inr differ ↦ set_elsewhere grown beyond block true differ ∙ on
]

pub as_many_left : (weights : List ℕ) (rows : List (Vec ℕ Global)) (grown : List Bool) (waiting new : List Ranked) (block : ℕ) → length grown ≡ length rows → slice_get grown block ≡ Some false
    → IsPermutation (waiting ++ map (ranked_of weights) (row_of rows block)) new
    → length new + rows_left rows (slice_set grown block true) ≡ length waiting + rows_left rows grown
as_many_left weights rows grown waiting new block same off put =
    let within : block < length grown = slice_get_within grown block false off in
    let longer = length_permutation (waiting ++ map (ranked_of weights) (row_of rows block)) new put in
    let both = length-append waiting (map (ranked_of weights) (row_of rows block)) in
    let row = length-map (row_of rows block) (ranked_of weights) in
    let left = left_without rows grown block same (omega (arith, same, within)) off in
    omega (arith, longer, both, row, left)

-- what waits is an edge by its rank
pub by_rank : (edges : List Edge) (weights : List ℕ) (item : Ranked) → (number : ℕ) × (number < length edges) × (item ≡ ranked_of weights number) → (item.number.0 < length edges) × (item ≡ ranked_of weights item.number.0)
by_rank edges weights item is =
    let same : item.number.0 ≡ is.0 = ap (λ (i : Ranked). i.number.0) is.2 in
    (subst (λ (n : ℕ). n < length edges) (sym same) is.1, is.2 ∙ ap (ranked_of weights) (sym same))

-- How many edges the rows of the blocks have that aren't grown.
use Rattle.std.proofs.Common.{◌≡◌, ℕ, zero, suc, ◌+◌, ◌<◌, Bool, true, false, cond, List, [], ◌∷◌, length, Some, arith}
use Rattle.std.specs.Prelude.{slice_get, slice_set}
use Rattle.std.specs.List.{zip}
use Rattle.std.proofs.lemmas.List.Sums.{sum_by-cons}
use Rattle.std.specs.declared.alloc.Global.{Global}
use Rattle.std.specs.declared.vec.Vec.{Vec}
use Rattle.flow_tree.specs.Inner.Growing.{row_of, rows_left}

abbrev left_if : Vec ℕ Global × Bool → ℕ
left_if each = cond each.1 0 (length each.0.items)

pub left_without : (rows : List (Vec ℕ Global)) (grown : List Bool) (block : ℕ) → length grown ≡ length rows → block < length rows → slice_get grown block ≡ Some false
    → rows_left rows (slice_set grown block true) + length (row_of rows block) ≡ rows_left rows grown
left_without [] grown block same within off = absurd (omega arith)
left_without (row ∷ rows) [] block same within off = absurd (omega (arith, same))
left_without (row ∷ rows) (true ∷ grown) zero same within off = absurd (let clash : Some true ≡ Some false = off in cc)
left_without (row ∷ rows) (false ∷ grown) zero same within off =
    omega (arith, sum_by-cons left_if (row, true) (zip rows grown), sum_by-cons left_if (row, false) (zip rows grown))
left_without (row ∷ rows) (mark ∷ grown) (suc block) same within off =
    let rest = left_without rows grown block (omega (arith, same)) (omega arith) off in
    omega (arith, sum_by-cons left_if (row, mark) (zip rows (slice_set grown block true)), sum_by-cons left_if (row, mark) (zip rows grown), rest)

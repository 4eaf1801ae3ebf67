-- Filling cells with edges.
use Rattle.std.proofs.Common.{◌≡◌, ◌≢◌, inl, inr, ℕ, zero, suc, ◌+◌, ◌*◌, ◌^◌, ◌<◌, ◌≤◌, Bool, true, false, List, [], ◌∷◌, length, Some, refl, sym, ap, ◌∙◌, subst, arith}
use Rattle.std.specs.Prelude.{slice_get, slice_set, sum_by}
use Rattle.std.proofs.lemmas.Bool.{cases_eq, cases_lt}
use Rattle.std.proofs.lemmas.List.{length-set}
use Rattle.std.proofs.lemmas.List.Sums.{sum_by-cons}
use Rattle.std.proofs.lemmas.Option.{slice_get_within, same_Some}
use Rattle.flow_graph.specs.declared.edge.Edge.{Edge}
use Rattle.graph_paths.specs.Forests.{IsAmong}
use Rattle.rv_code.proofs.LawsOfElements.{set_here, set_elsewhere}
use Rattle.flow_tree.specs.declared.cells.Cell.{Cell}
use Rattle.flow_tree.specs.WitnessEdges.{LeadsTo, joins_forth, IsUnmarked}
use Rattle.flow_tree.specs.Inner.Cells.{end_count, cell_of, AreCells, IsFilled}
use Rattle.flow_tree.proofs.Degrees.{end_count_is, here_same, here_other, here_most}
use Rattle.flow_tree.proofs.LawsOfJoins.{joins_within}
use Rattle.flow_tree.proofs.Leaves.{same_cell}

-- an edge has two ends
two_ends : (edges : List Edge) (block number from to : ℕ) → LeadsTo edges number from to → end_count edges block number ≤ 2
two_ends edges block number from to leads = omega (arith, end_count_is edges block number from to leads, here_most from block, here_most to block)

few_times : (count number limit : ℕ) → count ≤ 2 → number ≤ limit → count * number ≤ 2 * limit
few_times zero number limit few less = omega arith
few_times (suc zero) number limit few less = let one : suc zero * number ≡ number = omega arith in omega (arith, one)
few_times (suc (suc zero)) number limit few less = let two : suc (suc zero) * number ≡ number + number = omega arith in omega (arith, two)
few_times (suc (suc (suc count))) number limit few less = absurd (omega arith)

counts_few : (edges : List Edge) (block : ℕ) (rest : List ℕ) → ((number : ℕ) → IsAmong rest number → (from : ℕ) × (to : ℕ) × LeadsTo edges number from to) → sum_by (end_count edges block) rest ≤ 2 * length rest
counts_few edges block [] inner = omega arith
counts_few edges block (first ∷ rest) inner =
    let ends = inner first (inl refl) in
    omega (arith, sum_by-cons (end_count edges block) first rest, two_ends edges block first ends.0 ends.1 ends.2, counts_few edges block rest (λ number is. inner number (inr is)))

sums_few : (edges : List Edge) (block : ℕ) (rest : List ℕ) → length edges ≤ 2 ^ 31 → ((number : ℕ) → IsAmong rest number → (from : ℕ) × (to : ℕ) × LeadsTo edges number from to)
    → sum_by (λ (n : ℕ). end_count edges block n * n) rest ≤ 2 ^ 32 * length rest
sums_few edges block [] few inner = omega arith
sums_few edges block (first ∷ rest) few inner =
    let ends = inner first (inl refl) in
    let within = joins_within edges first ends.0 ends.1 (joins_forth ends.2) in
    let times = few_times (end_count edges block first) first (2 ^ 31) (two_ends edges block first ends.0 ends.1 ends.2) (omega (arith, within, few)) in
    omega (arith, sum_by-cons (λ (n : ℕ). end_count edges block n * n) first rest, times, sums_few edges block rest few (λ number is. inner number (inr is)))

-- a cell has room for two ends more
pub room_for : (edges : List Edge) (rest : List ℕ) (cells : List Cell) (block number : ℕ) (cell : Cell) → AreCells edges rest cells → length edges ≤ 2 ^ 31 → number < length edges → length rest ≤ number
    → slice_get cells block ≡ Some cell → (cell.count + 2 < 2 ^ 64) × (cell.sum + number + number < 2 ^ 64)
room_for edges rest cells block number cell held few within below is =
    let same : cell_of edges rest block ≡ cell = same_Some (cell_of edges rest block) cell (sym (held.each block (slice_get_within cells block cell is)) ∙ is) in
    let counts = counts_few edges block rest held.inner in
    let sums = sums_few edges block rest few held.inner in
    (subst (λ (c : Cell). c.count + 2 < 2 ^ 64) same (omega (arith, counts, below, few, within)), subst (λ (c : Cell). c.sum + number + number < 2 ^ 64) same (omega (arith, sums, below, few, within)))

module _ (edges : List Edge) (rest : List ℕ) (cells : List Cell) (number source to : ℕ) (held : AreCells edges rest cells) (leads : LeadsTo edges number source to)
    (source_within : source < length cells) (to_within : to < length cells) where
  abbrev first_cell : Cell
  first_cell = record { count = (cell_of edges rest source).count + 1; sum = (cell_of edges rest source).sum + number }

  abbrev first_cells : List Cell
  first_cells = slice_set cells source first_cell

  one_more : (block count sum : ℕ) → count ≡ end_count edges block number + sum_by (end_count edges block) rest → sum ≡ end_count edges block number * number + sum_by (λ (n : ℕ). end_count edges block n * n) rest
      → ◌≡◌ {A = Cell} (record { count = count; sum = sum }) (cell_of edges (number ∷ rest) block)
  one_more block count sum counts sums =
      same_cell count sum (sum_by (end_count edges block) (number ∷ rest)) (sum_by (λ (n : ℕ). end_count edges block n * n) (number ∷ rest))
      (counts ∙ sym (sum_by-cons (end_count edges block) number rest)) (sums ∙ sym (sum_by-cons (λ (n : ℕ). end_count edges block n * n) number rest))

  times : (block count : ℕ) → end_count edges block number ≡ count → end_count edges block number * number ≡ count * number
  times block count is = ap (λ (n : ℕ). n * number) is

  -- the cell at the target, between the two writes
  pub target_cell : (cell : Cell) → slice_get first_cells to ≡ Some cell → record { count = cell.count + 1; sum = cell.sum + number } ≡ cell_of edges (number ∷ rest) to
  target_cell cell is = elim (cases_eq to source) [
    | inl same ↦
        let read : first_cell ≡ cell = same_Some first_cell cell (sym (subst (λ (b : ℕ). slice_get first_cells b ≡ Some first_cell) (sym same) (set_here cells source first_cell source_within)) ∙ is) in
        let two : end_count edges to number ≡ 2 = (let counts = end_count_is edges to number source to leads in omega (arith, counts, here_same source to (sym same), here_same to to refl)) in
        let twice : end_count edges to number * number ≡ number + number = times to 2 two ∙ (omega arith) in
        ap (λ (c : Cell). record { count = c.count + 1; sum = c.sum + number }) (sym read)
        ∙ one_more to (first_cell.count + 1) (first_cell.sum + number)
        (omega (arith, two, ap (λ (b : ℕ). sum_by (end_count edges b) rest) same))
        (omega (arith, twice, ap (λ (b : ℕ). sum_by (λ (n : ℕ). end_count edges b n * n) rest) same))
    | inr differ ↦
        let read : cell_of edges rest to ≡ cell = same_Some (cell_of edges rest to) cell (sym (set_elsewhere cells source to first_cell differ ∙ held.each to to_within) ∙ is) in
        let one : end_count edges to number ≡ 1 = (let counts = end_count_is edges to number source to leads in omega (arith, counts, here_other source to (λ same. differ (sym same)), here_same to to refl)) in
        let once : end_count edges to number * number ≡ number = times to 1 one ∙ (omega arith) in
        ap (λ (c : Cell). record { count = c.count + 1; sum = c.sum + number }) (sym read)
        ∙ one_more to ((cell_of edges rest to).count + 1) ((cell_of edges rest to).sum + number) (omega (arith, one)) (omega (arith, once))
  ]

  source_cell : source ≢ to → first_cell ≡ cell_of edges (number ∷ rest) source
  source_cell differ =
      let one : end_count edges source number ≡ 1 = (let counts = end_count_is edges source number source to leads in omega (arith, counts, here_same source source refl, here_other to source (λ same. differ (sym same)))) in
      let once : end_count edges source number * number ≡ number = times source 1 one ∙ (omega arith) in
      one_more source first_cell.count first_cell.sum (omega (arith, one)) (omega (arith, once))

  other_cell : (block : ℕ) → block ≢ source → block ≢ to → cell_of edges rest block ≡ cell_of edges (number ∷ rest) block
  other_cell block one two =
      let none : end_count edges block number ≡ 0 = (let counts = end_count_is edges block number source to leads in omega (arith, counts, here_other source block (λ same. one (sym same)), here_other to block (λ same. two (sym same)))) in
      let never : end_count edges block number * number ≡ 0 = times block 0 none ∙ (omega arith) in
      one_more block (cell_of edges rest block).count (cell_of edges rest block).sum (omega (arith, none)) (omega (arith, never))

  abbrev last_cell : Cell → Cell
  last_cell cell = record { count = cell.count + 1; sum = cell.sum + number }

  abbrev last_cells : Cell → List Cell
  last_cells cell = slice_set first_cells to (last_cell cell)

  pub both_ends : (IsAmong rest number → ⊥) → (cell : Cell) → slice_get first_cells to ≡ Some cell → AreCells edges (number ∷ rest) (slice_set first_cells to (record { count = cell.count + 1; sum = cell.sum + number }))
  both_ends fresh cell is = record {
    once = (fresh, held.once);
    inner = λ other among. elim among [ inl same ↦ (source, to, subst (λ (n : ℕ). LeadsTo edges n source to) (sym same) leads) | inr behind ↦ held.inner other behind ];
    each = λ block within. elim (cases_eq block to) [
      | inl same ↦ subst (λ (b : ℕ). slice_get (last_cells cell) b ≡ Some (cell_of edges (number ∷ rest) b)) (sym same)
          (set_here first_cells to (last_cell cell) (omega (arith, to_within, length-set cells source first_cell)) ∙ ap (λ (c : Cell). Some c) (target_cell cell is))
      | inr two ↦ elim (cases_eq block source) [
        | inl same ↦ subst (λ (b : ℕ). slice_get (last_cells cell) b ≡ Some (cell_of edges (number ∷ rest) b)) (sym same)
            (set_elsewhere first_cells to source (last_cell cell) (λ equal. two (same ∙ equal)) ∙ set_here cells source first_cell source_within ∙ ap (λ (c : Cell). Some c) (source_cell (λ equal. two (same ∙ equal))))
        | inr one ↦
            set_elsewhere first_cells to block (last_cell cell) two ∙ set_elsewhere cells source block first_cell one
            ∙ held.each block (omega (arith, within, length-set first_cells to (last_cell cell), length-set cells source first_cell)) ∙ ap (λ (c : Cell). Some c) (other_cell block one two)
      ]
    ];
  }

  -- the cell at the target has room for one end
  pub room_then : length edges ≤ 2 ^ 31 → number < length edges → length rest ≤ number → (cell : Cell) → slice_get first_cells to ≡ Some cell → (cell.count + 1 < 2 ^ 64) × (cell.sum + number < 2 ^ 64)
  room_then few within below cell is = elim (cases_eq to source) [
    | inl same ↦
        let read : first_cell ≡ cell = same_Some first_cell cell (sym (subst (λ (b : ℕ). slice_get first_cells b ≡ Some first_cell) (sym same) (set_here cells source first_cell source_within)) ∙ is) in
        let room = room_for edges rest cells source number (cell_of edges rest source) held few within below (held.each source source_within) in
        (subst (λ (c : Cell). c.count + 1 < 2 ^ 64) read (omega (arith, room.0)), subst (λ (c : Cell). c.sum + number < 2 ^ 64) read (omega (arith, room.1)))
    | inr differ ↦
        let room = room_for edges rest cells to number cell held few within below (sym (set_elsewhere cells source to first_cell differ) ∙ is) in
        (omega (arith, room.0), omega (arith, room.1))
  ]

-- one edge more, which is marked
pub marked_filled : (edges : List Edge) (marks : List Bool) (cells : List Cell) (number left : ℕ) → (IsUnmarked marks number → ⊥) → IsFilled edges marks cells number left → IsFilled edges marks cells (number + 1) left
marked_filled edges marks cells number left marked before = record {
  rest = before.rest;
  held = before.held;
  count = before.count;
  few = let few = before.few in omega arith;
  among = λ edge is. let both = before.among edge is in (let less = both.0 in omega arith, both.1);
  back = λ edge less is. elim (cases_lt edge number) [
    | inl below ↦ before.back edge below is
    | inr above ↦ let same : edge ≡ number = omega arith in absurd (marked (subst (IsUnmarked marks) same is))
  ];
}

-- one edge more, which isn't
pub unmarked_filled : (edges : List Edge) (marks : List Bool) (cells new : List Cell) (number left : ℕ) → IsUnmarked marks number → (before : IsFilled edges marks cells number left)
    → ((rest : List ℕ) → AreCells edges rest cells → (IsAmong rest number → ⊥) → AreCells edges (number ∷ rest) new) → IsFilled edges marks new (number + 1) (left + 1)
unmarked_filled edges marks cells new number left unmarked before put = record {
  rest = number ∷ before.rest;
  held = put before.rest before.held (λ is. let both = before.among number is in let less = both.0 in absurd (omega arith));
  count = let count = before.count in omega arith;
  few = let few = before.few in omega arith;
  among = λ edge is. elim is [
    | inl same ↦ (omega arith, subst (IsUnmarked marks) (sym same) unmarked)
    | inr behind ↦ let both = before.among edge behind in (let less = both.0 in omega arith, both.1)
  ];
  back = λ edge less is. elim (cases_lt edge number) [
    | inl below ↦ inr (before.back edge below is)
    | inr above ↦ inl (omega arith)
  ];
}

pub marked_apart : (marks : List Bool) (number : ℕ) → slice_get marks number ≡ Some true → IsUnmarked marks number → ⊥
marked_apart marks number is other = absurd (let clash : Some true ≡ Some false = sym is ∙ other in cc)

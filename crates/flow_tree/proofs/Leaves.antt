-- Taking a leaf off.
use Rattle.std.proofs.Common.{◌≡◌, ◌≢◌, inl, inr, ℕ, ◌-◌, ◌*◌, ◌<◌, ◌≤◌, List, [], ◌∷◌, length, get_or, Some, sym, ap, ◌∙◌, subst, arith}
use Rattle.std.specs.Prelude.{slice_get, slice_set, sum_by}
use Rattle.std.proofs.lemmas.Bool.{cases_eq}
use Rattle.std.proofs.lemmas.List.{length-set}
use Rattle.std.proofs.lemmas.List.Sums.{sum_by-cons}
use Rattle.std.proofs.lemmas.Option.{slice_get_within, get_or_from_slice_get, same_Some}
use Rattle.flow_graph.specs.declared.edge.Edge.{Edge}
use Rattle.graph_paths.specs.Forests.{IsAmong}
use Rattle.rv_code.proofs.LawsOfElements.{set_here, set_elsewhere}
use Rattle.flow_tree.specs.declared.cells.Cell.{Cell}
use Rattle.flow_tree.specs.WitnessEdges.{LeadsTo}
use Rattle.flow_tree.specs.Inner.Cells.{end_count, cell_of, AreCells, IsLeaf, Strips}
use Rattle.flow_tree.proofs.Degrees.{named, OneEnd, one_end, far_of, joins_counts, none_counts, none_sums, only_one}
use Rattle.flow_tree.proofs.Sides.{no_edge}
use Rattle.flow_tree.proofs.Without.{Without, without}

abbrev pub no_cell : Cell
no_cell = record { count = 0; sum = 0 }

-- what a leaf's cell says
pub record LeafEdge (edges : List Edge) (rest : List ℕ) (leaf number : ℕ) : Type 0 where
  pub is : IsAmong rest number
  pub one : end_count edges leaf number ≡ 1
  pub degree_one : sum_by (end_count edges leaf) rest ≡ 1
  pub from : ℕ
  pub to : ℕ
  pub leads : LeadsTo edges number from to
  pub sum : sum_by (λ (n : ℕ). end_count edges leaf n * n) rest ≡ number

by_only : (edges : List Edge) (rest : List ℕ) (cells : List Cell) (leaf number : ℕ) → AreCells edges rest cells → sum_by (end_count edges leaf) rest ≡ 1 → sum_by (λ (n : ℕ). end_count edges leaf n * n) rest ≡ number → LeafEdge edges rest leaf number
by_only edges rest cells leaf number held one sum =
    let only = only_one edges leaf rest one in
    let same : only.number ≡ number = sym only.sum ∙ sum in
    let is : IsAmong rest number = subst (IsAmong rest) same only.is in
    let ends = held.inner number is in
    record { is = is; one = ap (end_count edges leaf) (sym same) ∙ only.one; degree_one = one; from = ends.0; to = ends.1; leads = ends.2; sum = sum }

pub leaf_edge : (edges : List Edge) (rest : List ℕ) (cells : List Cell) (leaf : ℕ) → AreCells edges rest cells → IsLeaf cells leaf → LeafEdge edges rest leaf (get_or cells leaf no_cell).sum
leaf_edge edges rest cells leaf held is_leaf =
    let read : get_or cells leaf no_cell ≡ record { count = 1; sum = is_leaf.0 } = get_or_from_slice_get cells leaf (record { count = 1; sum = is_leaf.0 }) no_cell is_leaf.1 in
    let within = slice_get_within cells leaf (record { count = 1; sum = is_leaf.0 }) is_leaf.1 in
    let same : cell_of edges rest leaf ≡ record { count = 1; sum = is_leaf.0 } = same_Some (cell_of edges rest leaf) (record { count = 1; sum = is_leaf.0 }) (sym (held.each leaf within) ∙ is_leaf.1) in
    by_only edges rest cells leaf (get_or cells leaf no_cell).sum held (ap (λ (cell : Cell). cell.count) same)
    (ap (λ (cell : Cell). cell.sum) same ∙ sym (ap (λ (cell : Cell). cell.sum) read))

-- the far end of a leaf's edge
pub leaf_far : (edges : List Edge) (rest : List ℕ) (leaf number far : ℕ) → LeafEdge edges rest leaf number
    → ((from to : ℕ) → (get_or edges number no_edge).source ≡ from → (get_or edges number no_edge).to ≡ Some to → far ≡ far_of leaf from to) → OneEnd edges number leaf far
leaf_far edges rest leaf number far known gives =
    let is = named edges number known.from known.to known.leads in
    let read : get_or edges number no_edge ≡ is.edge = get_or_from_slice_get edges number is.edge no_edge is.is in
    let far_is : far ≡ far_of leaf known.from known.to = gives known.from known.to (ap (λ (edge : Edge). edge.source) read ∙ is.source) (ap (λ (edge : Edge). edge.to) read ∙ is.target) in
    subst (OneEnd edges number leaf) (sym far_is) (one_end edges number leaf known.from known.to known.leads known.one)

-- one number of a sum
pub part_of_sum : (weight : ℕ → ℕ) (rest : List ℕ) (number : ℕ) → IsAmong rest number → weight number ≤ sum_by weight rest
part_of_sum weight [] number is = absurd is
part_of_sum weight (first ∷ rest) number (inl same) = omega (arith, sum_by-cons weight first rest, ap weight same)
part_of_sum weight (first ∷ rest) number (inr behind) = omega (arith, sum_by-cons weight first rest, part_of_sum weight rest number behind)

pub once_times : (edges : List Edge) (far number : ℕ) → end_count edges far number ≡ 1 → end_count edges far number * number ≡ number
once_times edges far number one = ap (λ (n : ℕ). n * number) one ∙ (omega arith)

pub never_times : (edges : List Edge) (far number : ℕ) → end_count edges far number ≡ 0 → end_count edges far number * number ≡ 0
never_times edges far number none = ap (λ (n : ℕ). n * number) none ∙ (omega arith)

-- the cell at the far end, as it is read behind the write of the leaf's
pub far_read : (edges : List Edge) (rest : List ℕ) (cells : List Cell) (leaf far : ℕ) → AreCells edges rest cells → far ≢ leaf → far < length cells → get_or (slice_set cells leaf no_cell) far no_cell ≡ cell_of edges rest far
far_read edges rest cells leaf far held differ within = get_or_from_slice_get (slice_set cells leaf no_cell) far (cell_of edges rest far) no_cell (set_elsewhere cells leaf far no_cell differ ∙ held.each far within)

pub far_count : (edges : List Edge) (rest : List ℕ) (far number : ℕ) → IsAmong rest number → end_count edges far number ≡ 1 → 1 ≤ (cell_of edges rest far).count
far_count edges rest far number is one = let part = part_of_sum (end_count edges far) rest number is in omega (arith, part, one)

pub far_sum : (edges : List Edge) (rest : List ℕ) (far number : ℕ) → IsAmong rest number → end_count edges far number ≡ 1 → number ≤ (cell_of edges rest far).sum
far_sum edges rest far number is one = let part = part_of_sum (λ (n : ℕ). end_count edges far n * n) rest number is in omega (arith, part, once_times edges far number one)

pub same_cell : (count sum count_too sum_too : ℕ) → count ≡ count_too → sum ≡ sum_too → ◌≡◌ {A = Cell} (record { count = count; sum = sum }) (record { count = count_too; sum = sum_too })
same_cell count sum count_too sum_too one two = ap (λ (c : ℕ). record { count = c; sum = sum }) one ∙ ap (λ (s : ℕ). record { count = count_too; sum = s }) two

module _ (edges : List Edge) (rest : List ℕ) (cells : List Cell) (leaf number far : ℕ) (held : AreCells edges rest cells) (known : LeafEdge edges rest leaf number) (ends : OneEnd edges number leaf far)
    (leaf_within : leaf < length cells) (far_within : far < length cells) (new_far : Cell)
    (new_is : new_far ≡ record { count = (get_or (slice_set cells leaf no_cell) far no_cell).count - 1; sum = (get_or (slice_set cells leaf no_cell) far no_cell).sum - number }) where
  abbrev fewer : Without rest number
  fewer = without rest number known.is held.once

  abbrev cells_now : List Cell
  cells_now = slice_set (slice_set cells leaf no_cell) far new_far

  leaf_bare : sum_by (end_count edges leaf) fewer.rest ≡ 0
  leaf_bare = let parts = fewer.sum (end_count edges leaf) in omega (arith, parts, known.one, known.degree_one)

  at_leaf : slice_get cells_now leaf ≡ Some (cell_of edges fewer.rest leaf)
  at_leaf =
      set_elsewhere (slice_set cells leaf no_cell) far leaf new_far (λ same. ends.differ (sym same))
      ∙ set_here cells leaf no_cell leaf_within
      ∙ ap (λ (cell : Cell). Some cell)
      (same_cell 0 0 (sum_by (end_count edges leaf) fewer.rest) (sum_by (λ (n : ℕ). end_count edges leaf n * n) fewer.rest) (sym leaf_bare) (sym (none_sums edges leaf fewer.rest leaf_bare)))

  far_now : new_far ≡ cell_of edges fewer.rest far
  far_now =
      let read = far_read edges rest cells leaf far held ends.differ far_within in
      let counts = fewer.sum (end_count edges far) in
      let sums = fewer.sum (λ (n : ℕ). end_count edges far n * n) in
      new_is
      ∙ ap (λ (cell : Cell). record { count = cell.count - 1; sum = cell.sum - number }) read
      ∙ same_cell (sum_by (end_count edges far) rest - 1) (sum_by (λ (n : ℕ). end_count edges far n * n) rest - number) (sum_by (end_count edges far) fewer.rest) (sum_by (λ (n : ℕ). end_count edges far n * n) fewer.rest)
      (omega (arith, counts, ends.far_one)) (omega (arith, sums, once_times edges far number ends.far_one))

  at_far : slice_get cells_now far ≡ Some (cell_of edges fewer.rest far)
  at_far = set_here (slice_set cells leaf no_cell) far new_far (omega (arith, far_within, length-set cells leaf no_cell)) ∙ ap (λ (cell : Cell). Some cell) far_now

  at_other : (block : ℕ) → block < length cells → block ≢ leaf → block ≢ far → slice_get cells_now block ≡ Some (cell_of edges fewer.rest block)
  at_other block within one two =
      let counts = fewer.sum (end_count edges block) in
      let sums = fewer.sum (λ (n : ℕ). end_count edges block n * n) in
      let none = ends.others block one two in
      set_elsewhere (slice_set cells leaf no_cell) far block new_far two
      ∙ set_elsewhere cells leaf block no_cell one
      ∙ held.each block within
      ∙ ap (λ (cell : Cell). Some cell)
      (same_cell (sum_by (end_count edges block) rest) (sum_by (λ (n : ℕ). end_count edges block n * n) rest) (sum_by (end_count edges block) fewer.rest) (sum_by (λ (n : ℕ). end_count edges block n * n) fewer.rest)
      (omega (arith, counts, none)) (omega (arith, sums, never_times edges block number none)))

  each_now : (block : ℕ) → block < length cells_now → slice_get cells_now block ≡ Some (cell_of edges fewer.rest block)
  each_now block within = elim (cases_eq block leaf) [
    | inl same ↦ subst (λ (b : ℕ). slice_get cells_now b ≡ Some (cell_of edges fewer.rest b)) (sym same) at_leaf
    | inr one ↦ elim (cases_eq block far) [
      | inl same ↦ subst (λ (b : ℕ). slice_get cells_now b ≡ Some (cell_of edges fewer.rest b)) (sym same) at_far
      | inr two ↦ at_other block (omega (arith, within, length-set (slice_set cells leaf no_cell) far new_far, length-set cells leaf no_cell)) one two
    ]
  ]

  pub stripped : Strips edges rest cells_now leaf far
  stripped = record {
    number = number;
    is = known.is;
    joined = ends.joined;
    fewer = fewer.rest;
    within = fewer.within;
    back = fewer.back;
    count = fewer.count;
    sum = fewer.sum;
    differ = ends.differ;
    others = ends.others;
    held = record { once = fewer.once; inner = λ other is. held.inner other (fewer.within other is).0; each = each_now };
    bare = λ other one is joined.
        let some = joins_counts edges leaf other one joined in
        let none = none_counts edges leaf fewer.rest other leaf_bare is in
        absurd (omega (arith, some, none));
  }

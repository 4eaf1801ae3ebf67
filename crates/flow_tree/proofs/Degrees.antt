-- How many ends edges have at a block.
use Rattle.std.proofs.Common.{◌≡◌, ◌≢◌, inl, inr, ℕ, ◌+◌, ◌*◌, ◌≤◌, Bool, cond, eqb, List, [], ◌∷◌, Option, Some, None, refl, sym, ap, ◌∙◌, subst, arith}
use Rattle.std.specs.Prelude.{slice_get, sum_by}
use Rattle.std.specs.Option.{option_map, option_map_or}
use Rattle.std.proofs.lemmas.Bool.{cases_eq, eq-eqb, ne_eqb}
use Rattle.std.proofs.lemmas.List.Sums.{sum_by-cons}
use Rattle.std.proofs.lemmas.Option.{slice_get_cases, some_pair_parts}
use Rattle.flow_graph.specs.declared.edge.Edge.{Edge}
use Rattle.graph_paths.specs.Forests.{IsAmong}
use Rattle.flow_tree.specs.WitnessEdges.{LeadsTo, Joins, joins_forth, joins_back}
use Rattle.flow_tree.specs.Inner.Cells.{end_count}

abbrev pub here_if : (at block : ℕ) → ℕ
here_if at block = cond (eqb at block) 1 0

pub here_same : (at block : ℕ) → at ≡ block → here_if at block ≡ 1
here_same at block same = ap (λ (b : Bool). cond b 1 0) (eq-eqb at block same)

pub here_other : (at block : ℕ) → at ≢ block → here_if at block ≡ 0
here_other at block differ = ap (λ (b : Bool). cond b 1 0) (ne_eqb at block differ)

-- the edge that a number names
pub record Named (edges : List Edge) (number from to : ℕ) : Type 0 where
  pub edge : Edge
  pub is : slice_get edges number ≡ Some edge
  pub source : edge.source ≡ from
  pub target : edge.to ≡ Some to

pub named : (edges : List Edge) (number from to : ℕ) → LeadsTo edges number from to → Named edges number from to
named edges number from to leads = elim (slice_get_cases edges number).1 [
  | inl there ↦
      let ends = some_pair_parts there.0.source from there.0.to (Some to) (sym (ap (option_map (λ (edge : Edge). (edge.source, edge.to))) there.2) ∙ leads) in
      record { edge = there.0; is = there.2; source = ends.0; target = ends.1 }
  | inr past ↦ absurd (let clash : None ≡ Some (from, Some to) = sym (ap (option_map (λ (edge : Edge). (edge.source, edge.to))) past.1) ∙ leads in cc)
]

pub end_count_is : (edges : List Edge) (block number from to : ℕ) → LeadsTo edges number from to → end_count edges block number ≡ here_if from block + here_if to block
end_count_is edges block number from to leads =
    let is = named edges number from to leads in
    ap (λ (found : Option Edge). option_map_or (λ (edge : Edge). here_if edge.source block + option_map_or (λ (t : ℕ). here_if t block) edge.to 0) found 0) is.is
    ∙ ap (λ (s : ℕ). here_if s block + option_map_or (λ (t : ℕ). here_if t block) is.edge.to 0) is.source
    ∙ ap (λ (t : Option ℕ). here_if from block + option_map_or (λ (n : ℕ). here_if n block) t 0) is.target

pub here_most : (at block : ℕ) → here_if at block ≤ 1
here_most at block = elim (cases_eq at block) [ inl same ↦ omega (arith, here_same at block same) | inr differ ↦ omega (arith, here_other at block differ) ]

-- an edge that joins a block has an end there
pub joins_counts : (edges : List Edge) (block number other : ℕ) → Joins edges number block other → 1 ≤ end_count edges block number
joins_counts edges block number other (joins_forth leads) = omega (arith, end_count_is edges block number block other leads, here_same block block refl)
joins_counts edges block number other (joins_back leads) = omega (arith, end_count_is edges block number other block leads, here_same block block refl)

-- and one that has an end there joins it
pub counts_join : (edges : List Edge) (block number from to : ℕ) → LeadsTo edges number from to → 1 ≤ end_count edges block number → (other : ℕ) × Joins edges number block other
counts_join edges block number from to leads some = elim (cases_eq from block) [
  | inl same ↦ (to, joins_forth (subst (λ (s : ℕ). LeadsTo edges number s to) same leads))
  | inr differ ↦ elim (cases_eq to block) [
    | inl same ↦ (from, joins_back (subst (LeadsTo edges number from) same leads))
    | inr other ↦ absurd (omega (arith, end_count_is edges block number from to leads, here_other from block differ, here_other to block other, some))
  ]
]

-- the end of an edge that isn't the block
abbrev pub far_of : (block from to : ℕ) → ℕ
far_of block from to = cond (eqb from block) to from

-- an edge with one end at a block joins it to another
pub record OneEnd (edges : List Edge) (number block far : ℕ) : Type 0 where
  pub joined : Joins edges number block far
  pub differ : far ≢ block
  pub far_one : end_count edges far number ≡ 1
  pub others : (other : ℕ) → other ≢ block → other ≢ far → end_count edges other number ≡ 0

one_from : (edges : List Edge) (number block from to : ℕ) → LeadsTo edges number from to → from ≡ block → to ≢ block → OneEnd edges number block to
one_from edges number block from to leads same differ = record {
  joined = joins_forth (subst (λ (s : ℕ). LeadsTo edges number s to) same leads);
  differ = differ;
  far_one = omega (arith, end_count_is edges to number from to leads, here_same to to refl, here_other from to (λ equal. differ (sym equal ∙ same)));
  others = λ other one two. omega (arith, end_count_is edges other number from to leads, here_other from other (λ equal. one (sym equal ∙ same)), here_other to other (λ equal. two (sym equal)));
}

one_to : (edges : List Edge) (number block from to : ℕ) → LeadsTo edges number from to → to ≡ block → from ≢ block → OneEnd edges number block from
one_to edges number block from to leads same differ = record {
  joined = joins_back (subst (LeadsTo edges number from) same leads);
  differ = differ;
  far_one = omega (arith, end_count_is edges from number from to leads, here_same from from refl, here_other to from (λ equal. differ (sym equal ∙ same)));
  others = λ other one two. omega (arith, end_count_is edges other number from to leads, here_other to other (λ equal. one (sym equal ∙ same)), here_other from other (λ equal. two (sym equal)));
}

pub one_end : (edges : List Edge) (number block from to : ℕ) → LeadsTo edges number from to → end_count edges block number ≡ 1 → OneEnd edges number block (far_of block from to)
one_end edges number block from to leads one = elim (cases_eq from block) [
  | inl same ↦
      let far : far_of block from to ≡ to = ap (λ (b : Bool). cond b to from) (eq-eqb from block same) in
      subst (OneEnd edges number block) (sym far)
      (one_from edges number block from to leads same (λ equal. absurd (omega (arith, end_count_is edges block number from to leads, here_same from block same, here_same to block equal, one))))
  | inr differ ↦
      let far : far_of block from to ≡ from = ap (λ (b : Bool). cond b to from) (ne_eqb from block differ) in
      subst (OneEnd edges number block) (sym far) (elim (cases_eq to block) [
        | inl same ↦ one_to edges number block from to leads same differ
        | inr other ↦ absurd (omega (arith, end_count_is edges block number from to leads, here_other from block differ, here_other to block other, one))
      ])
]

-- of edges that have no end at a block each has none, and their numbers there sum up to nothing
pub none_counts : (edges : List Edge) (block : ℕ) (rest : List ℕ) (number : ℕ) → sum_by (end_count edges block) rest ≡ 0 → IsAmong rest number → end_count edges block number ≡ 0
none_counts edges block [] number none is = absurd is
none_counts edges block (first ∷ rest) number none (inl same) =
    ap (end_count edges block) same ∙ (let parts = sum_by-cons (end_count edges block) first rest in omega (arith, parts, none))
none_counts edges block (first ∷ rest) number none (inr behind) =
    none_counts edges block rest number (let parts = sum_by-cons (end_count edges block) first rest in omega (arith, parts, none)) behind

pub none_sums : (edges : List Edge) (block : ℕ) (rest : List ℕ) → sum_by (end_count edges block) rest ≡ 0 → sum_by (λ (n : ℕ). end_count edges block n * n) rest ≡ 0
none_sums edges block [] none = refl
none_sums edges block (first ∷ rest) none =
    let parts = sum_by-cons (end_count edges block) first rest in
    let later = none_sums edges block rest (omega (arith, parts, none)) in
    let zero_here : end_count edges block first ≡ 0 = omega (arith, parts, none) in
    let product : end_count edges block first * first ≡ 0 = ap (λ (n : ℕ). n * first) zero_here ∙ (omega arith) in
    omega (arith, sum_by-cons (λ (n : ℕ). end_count edges block n * n) first rest, later, product)

-- the only edge with an end at a block, and its number
pub record OnlyOne (edges : List Edge) (block : ℕ) (rest : List ℕ) : Type 0 where
  pub number : ℕ
  pub is : IsAmong rest number
  pub one : end_count edges block number ≡ 1
  pub sum : sum_by (λ (n : ℕ). end_count edges block n * n) rest ≡ number

pub only_one : (edges : List Edge) (block : ℕ) (rest : List ℕ) → sum_by (end_count edges block) rest ≡ 1 → OnlyOne edges block rest
only_one edges block [] one = absurd (omega (arith, one))
only_one edges block (first ∷ rest) one = elim (cases_eq (end_count edges block first) 0) [
  | inl none ↦ behind (only_one edges block rest (let parts = sum_by-cons (end_count edges block) first rest in omega (arith, parts, one, none))) none
  | inr some ↦ here some
]
  where
    behind : OnlyOne edges block rest → end_count edges block first ≡ 0 → OnlyOne edges block (first ∷ rest)
    behind later none = record {
      number = later.number;
      is = inr later.is;
      one = later.one;
      sum =
          let product : end_count edges block first * first ≡ 0 = ap (λ (n : ℕ). n * first) none ∙ (omega arith) in
          omega (arith, sum_by-cons (λ (n : ℕ). end_count edges block n * n) first rest, later.sum, product);
    }

    here : (end_count edges block first ≡ 0 → ⊥) → OnlyOne edges block (first ∷ rest)
    here some =
        let parts = sum_by-cons (end_count edges block) first rest in
        let one_here : end_count edges block first ≡ 1 = omega (arith, parts, one, some) in
        let none_later = none_sums edges block rest (omega (arith, parts, one, one_here)) in
        let product : end_count edges block first * first ≡ first = ap (λ (n : ℕ). n * first) one_here ∙ (omega arith) in
        record {
          number = first;
          is = inl refl;
          one = one_here;
          sum = omega (arith, sum_by-cons (λ (n : ℕ). end_count edges block n * n) first rest, none_later, product);
        }

-- In a forest each edge is the first of a trail that ends at a leaf.
use Rattle.std.proofs.Common.{◌≡◌, ◌≢◌, inl, inr, ℕ, zero, suc, ◌+◌, ◌≤◌, List, [], ◌∷◌, ◌++◌, length, refl, sym, ap, ◌∙◌, subst, arith}
use Rattle.std.specs.Prelude.{sum_by}
use Rattle.std.proofs.lemmas.Bool.{cases_eq}
use Rattle.std.proofs.lemmas.List.Sums.{sum_by-cons}
use Rattle.flow_graph.specs.declared.edge.Edge.{Edge}
use Rattle.graph_paths.specs.Paths.{Path, here, over}
use Rattle.graph_paths.specs.Forests.{HasNoCycle, IsAmong, StandOnce, Trail}
use Rattle.graph_paths.proofs.LawsOfPaths.{Path-turned, Path-wider}
use Rattle.graph_paths.proofs.LawsOfTrails.{Trail-met}
use Rattle.graph_paths.proofs.LawsOfMembers.{among_either}
use Rattle.flow_tree.specs.WitnessEdges.{LeadsTo, Joins, joins_forth}
use Rattle.flow_tree.specs.Inner.Cells.{end_count}
use Rattle.flow_tree.proofs.Degrees.{end_count_is, here_other, here_most, joins_counts, counts_join}
use Rattle.flow_tree.proofs.LawsOfJoins.{Joins-IsUndirected}
use Rattle.flow_tree.proofs.Without.{without, still_within}

-- a list from its end
abbrev pub turned : List ℕ → List ℕ
turned [] = []
turned (first ∷ rest) = turned rest ++ first ∷ []

turned_among : (list : List ℕ) (edge : ℕ) → IsAmong (turned list) edge → IsAmong list edge
turned_among [] edge is = is
turned_among (first ∷ rest) edge is = elim (among_either (turned rest) (first ∷ []) edge is) [
  | inl front ↦ inr (turned_among rest edge front)
  | inr end ↦ elim end [ inl same ↦ inl same | inr nowhere ↦ absurd nowhere ]
]

pub once_more : (list : List ℕ) (edge : ℕ) → (IsAmong list edge → ⊥) → StandOnce list → StandOnce (list ++ edge ∷ [])
once_more [] edge fresh once = (λ is. is, tt)
once_more (first ∷ rest) edge fresh once = (
  λ is. elim (among_either rest (edge ∷ []) first is) [
    | inl behind ↦ once.0 behind
    | inr end ↦ elim end [ inl same ↦ fresh (inl (sym same)) | inr nowhere ↦ absurd nowhere ]
  ],
  once_more rest edge (λ is. fresh (inr is)) once.1,
)

turned_once : (list : List ℕ) → StandOnce list → StandOnce (turned list)
turned_once [] once = tt
turned_once (first ∷ rest) once = once_more (turned rest) first (λ is. once.0 (turned_among rest first is)) (turned_once rest once.1)

module _ (edges : List Edge) where
  pub trail_on : (list : List ℕ) (edge one two three : ℕ) → Trail (Joins edges) list one two → Joins edges edge two three → Trail (Joins edges) (list ++ edge ∷ []) one three
  trail_on [] edge one two three trail joined = (three, subst (λ (place : ℕ). Joins edges edge place three) (sym trail) joined, refl)
  trail_on (first ∷ rest) edge one two three trail joined = (trail.0, trail.1, trail_on rest edge trail.0 two three trail.2 joined)

  turned_trail : (list : List ℕ) (one two : ℕ) → Trail (Joins edges) list one two → Trail (Joins edges) (turned list) two one
  turned_trail [] one two trail = sym trail
  turned_trail (first ∷ rest) one two trail = trail_on (turned rest) first two trail.0 one (turned_trail rest trail.0 two trail.2) ((Joins-IsUndirected edges).turned first one trail.0 trail.1)

-- what is once in a list, and all within another, is no longer
pub no_longer : (list more : List ℕ) → StandOnce list → StandOnce more → ((edge : ℕ) → IsAmong list edge → IsAmong more edge) → length list ≤ length more
no_longer [] more once once_more within = omega arith
no_longer (edge ∷ list) more once once_more within =
    let fewer = without more edge (within edge (inl refl)) once_more in
    let rest = no_longer list fewer.rest once.1 fewer.once (λ other is. still_within list fewer.rest edge other once.0 is (fewer.back other (within other (inr is)))) in
    omega (arith, fewer.count, rest)

pub some_counts : (weight : ℕ → ℕ) (list : List ℕ) → 1 ≤ sum_by weight list → (number : ℕ) × IsAmong list number × (1 ≤ weight number)
some_counts weight [] some = absurd (omega (arith, some))
some_counts weight (first ∷ rest) some = elim (cases_eq (weight first) 0) [
  | inl none ↦ let later = some_counts weight rest (omega (arith, sum_by-cons weight first rest, none, some)) in (later.0, inr later.1, later.2)
  | inr here_some ↦ (first, inl refl, omega arith)
]

-- A trail over edges of a list from one place to a leaf, none twice: its first edge is given.
pub record LeafTrail (edges : List Edge) (list : List ℕ) (first one : ℕ) : Type 0 where
  pub rest : List ℕ
  pub leaf : ℕ
  pub trail : Trail (Joins edges) (first ∷ rest) one leaf
  pub once : StandOnce (first ∷ rest)
  pub within : (edge : ℕ) → IsAmong (first ∷ rest) edge → IsAmong list edge
  pub one_end : sum_by (end_count edges leaf) list ≡ 1

-- the same from its end, up to some place
record Backward (edges : List Edge) (list : List ℕ) (first one at : ℕ) (steps : ℕ) : Type 0 where
  last : ℕ
  more : List ℕ
  before : ℕ
  joined : Joins edges last at before
  trail : Trail (Joins edges) more before one
  once : StandOnce (last ∷ more)
  within : (edge : ℕ) → IsAmong (last ∷ more) edge → IsAmong list edge
  turned_rest : List ℕ
  turned_is : turned (last ∷ more) ≡ first ∷ turned_rest
  count : length (last ∷ more) ≡ steps

module _ (edges : List Edge) (list : List ℕ) (once : StandOnce list) (inner : (number : ℕ) → IsAmong list number → (from : ℕ) × (to : ℕ) × LeadsTo edges number from to)
    (forest : HasNoCycle (Joins edges) (IsAmong list)) where
  -- no edge of a forest has both ends at one block
  pub at_most_one : (block number : ℕ) → IsAmong list number → end_count edges block number ≤ 1
  at_most_one block number is =
      let ends = inner number is in
      elim (cases_eq ends.0 block) [
        | inl from_is ↦ elim (cases_eq ends.1 block) [
          | inl to_is ↦ absurd (forest number is (record {
            from = ends.0;
            to = ends.1;
            ends = joins_forth ends.2;
            path = subst (Path (Joins edges) (λ other. IsAmong list other × (other ≢ number)) ends.0) (from_is ∙ sym to_is) here;
          }))
          | inr to_differs ↦ omega (arith, end_count_is edges block number ends.0 ends.1 ends.2, here_most ends.0 block, here_other ends.1 block to_differs)
        ]
        | inr from_differs ↦ omega (arith, end_count_is edges block number ends.0 ends.1 ends.2, here_other ends.0 block from_differs, here_most ends.1 block)
      ]

  -- another edge at the end of a trail is none of the trail's
  fresh_edge : (first one at steps : ℕ) (trail : Backward edges list first one at steps) (edge far : ℕ) → IsAmong list edge → edge ≢ trail.last → Joins edges edge at far → IsAmong (trail.last ∷ trail.more) edge → ⊥
  fresh_edge first one at steps trail edge far is differ joined (inl same) = differ same
  fresh_edge first one at steps trail edge far is differ joined (inr behind) =
      let met = Trail-met cases_eq trail.more edge trail.before one behind trail.trail in
      elim ((Joins-IsUndirected edges).ends edge at far met.from met.to joined met.ends) [
        | inl ends ↦ forest trail.last (trail.within trail.last (inl refl)) (record {
          from = at;
          to = trail.before;
          ends = trail.joined;
          path = Path-turned (Joins-IsUndirected edges) (subst (Path (Joins edges) (λ other. IsAmong list other × (other ≢ trail.last)) trail.before) (sym ends.0)
              (Path-wider (λ other both. (trail.within other (inr both.0), λ same. trail.once.0 (subst (IsAmong trail.more) same both.0))) met.path));
        })
        | inr ends ↦ forest edge is (record {
          from = at;
          to = far;
          ends = joined;
          path = over trail.last (trail.within trail.last (inl refl), λ same. differ (sym same)) trail.joined
              (subst (Path (Joins edges) (λ other. IsAmong list other × (other ≢ edge)) trail.before) (sym ends.1)
              (Path-wider (λ other both. (trail.within other (inr both.0), both.1)) met.path));
        })
      ]

  -- a trail goes on where it isn't at a leaf
  goes_on : (first one at steps : ℕ) → Backward edges list first one at steps → (sum_by (end_count edges at) list ≡ 1 → ⊥) → (far : ℕ) × Backward edges list first one far (suc steps)
  goes_on first one at steps trail no_leaf =
      let is : IsAmong list trail.last = trail.within trail.last (inl refl) in
      let fewer = without list trail.last is once in
      let parts = fewer.sum (end_count edges at) in
      let some = joins_counts edges at trail.last trail.before trail.joined in
      let few = at_most_one at trail.last is in
      let other = some_counts (end_count edges at) fewer.rest (omega (arith, parts, some, few, no_leaf)) in
      let both = fewer.within other.0 other.1 in
      let ends = inner other.0 both.0 in
      let join = counts_join edges at other.0 ends.0 ends.1 ends.2 other.2 in (
        join.0,
        record {
          last = other.0;
          more = trail.last ∷ trail.more;
          before = at;
          joined = (Joins-IsUndirected edges).turned other.0 at join.0 join.1;
          trail = (trail.before, trail.joined, trail.trail);
          once = (fresh_edge first one at steps trail other.0 join.0 both.0 both.1 join.1, trail.once);
          within = λ edge among. elim among [ inl same ↦ subst (IsAmong list) (sym same) both.0 | inr behind ↦ trail.within edge behind ];
          turned_rest = trail.turned_rest ++ other.0 ∷ [];
          turned_is = ap (λ (xs : List ℕ). xs ++ other.0 ∷ []) trail.turned_is;
          count = let count = trail.count in omega arith;
        },
      )

  ends_here : (first one at steps : ℕ) → Backward edges list first one at steps → sum_by (end_count edges at) list ≡ 1 → LeafTrail edges list first one
  ends_here first one at steps trail leaf = record {
    rest = trail.turned_rest;
    leaf = at;
    trail = subst (λ (xs : List ℕ). Trail (Joins edges) xs one at) trail.turned_is (turned_trail edges (trail.last ∷ trail.more) at one (trail.before, trail.joined, trail.trail));
    once = subst StandOnce trail.turned_is (turned_once (trail.last ∷ trail.more) trail.once);
    within = λ edge is. trail.within edge (turned_among (trail.last ∷ trail.more) edge (subst (λ (xs : List ℕ). IsAmong xs edge) (sym trail.turned_is) is));
    one_end = leaf;
  }

  too_long : (first one at steps : ℕ) → Backward edges list first one at steps → steps ≤ length list
  too_long first one at steps trail = let few = no_longer (trail.last ∷ trail.more) list trail.once once trail.within in omega (arith, few, trail.count)

  comes_to_leaf : (fuel first one at steps : ℕ) → Backward edges list first one at steps → length list ≤ steps + fuel → LeafTrail edges list first one
  comes_to_leaf zero first one at steps trail long = elim (cases_eq (sum_by (end_count edges at) list) 1) [
    | inl leaf ↦ ends_here first one at steps trail leaf
    | inr no_leaf ↦ let on = goes_on first one at steps trail no_leaf in let limit = too_long first one on.0 (suc steps) on.1 in absurd (omega arith)
  ]
  comes_to_leaf (suc fuel) first one at steps trail long = elim (cases_eq (sum_by (end_count edges at) list) 1) [
    | inl leaf ↦ ends_here first one at steps trail leaf
    | inr no_leaf ↦ let on = goes_on first one at steps trail no_leaf in comes_to_leaf fuel first one on.0 (suc steps) on.1 (omega arith)
  ]

  -- each edge of a forest is the first of a trail to a leaf
  pub leaf_trail : (first one other : ℕ) → IsAmong list first → Joins edges first one other → LeafTrail edges list first one
  leaf_trail first one other is joined = comes_to_leaf (length list) first one other 1 (record {
    last = first;
    more = [];
    before = one;
    joined = (Joins-IsUndirected edges).turned first one other joined;
    trail = refl;
    once = (λ nowhere. nowhere, tt);
    within = λ edge among. elim among [ inl same ↦ subst (IsAmong list) (sym same) is | inr nowhere ↦ absurd nowhere ];
    turned_rest = [];
    turned_is = refl;
    count = omega arith;
  }) (omega arith)

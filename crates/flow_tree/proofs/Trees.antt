-- How a tree grows by an edge that ranks first of those that lead on.
use Rattle.std.proofs.Common.{◌≡◌, ◌⊎◌, inl, inr, ℕ, zero, suc, ◌<◌, Bool, true, false, List, [], ◌∷◌, ◌++◌, length, map, Some, refl, sym, ap, ◌∙◌, subst, arith}
use Rattle.std.specs.Prelude.{slice_get, slice_set}
use Rattle.std.specs.List.Sorted.{IsPermutation}
use Rattle.std.specs.declared.cmp.Ordering.{Ordering}
use Rattle.std.specs.declared.cmp.Ordering.TheVariants.{Less, Equal}
use Rattle.std.specs.Cmp.{nat_cmp_is}
use Rattle.std.specs.Ordering.{is_lt, nat_cmp, ordering_then}
use Rattle.std.proofs.lemmas.Bool.{cases_eq}
use Rattle.std.proofs.lemmas.Option.{slice_get_within}
use Rattle.std.specs.declared.alloc.Global.{Global}
use Rattle.std.specs.declared.vec.Vec.{Vec}
use Rattle.flow_graph.specs.declared.edge.Edge.{Edge}
use Rattle.graph_paths.specs.Paths.{Path, here, over}
use Rattle.graph_paths.specs.Forests.{IsAmong}
use Rattle.graph_paths.proofs.LawsOfPaths.{Path-append, Path-edge, Path-turned, Path-wider, Closes-path}
use Rattle.graph_paths.proofs.LawsOfMembers.{among_front, among_end, among_either}
use Rattle.rv_code.proofs.LawsOfElements.{set_here, set_elsewhere}
use Rattle.flow_tree.specs.declared.waiting.Ranked.{Ranked}
use Rattle.flow_tree.specs.WitnessEdges.{Joins, RanksBefore, heavier, sooner, IsWitness, leaves, closes, IsUnmarked}
use Rattle.flow_tree.specs.Inner.Waiting.{ComesFirst, rank_order}
use Rattle.flow_tree.specs.Inner.Growing.{AreRows, row_of, ranked_of, IsGrown, LeadsBeyond, Waits, IsGrowing, HasGrown}
use Rattle.flow_tree.proofs.AmongLists.{among_permuted, among_back, among_map, from_map, all_among, is_set}
use Rattle.flow_tree.proofs.LawsOfJoins.{Joins-IsUndirected, leaving_joins_none, ranks_apart}

-- an edge of a path that leads on from what is grown
record Crossing (edges : List Edge) (grown : List Bool) (allowed : ℕ → Type 0) : Type 0 where
  pub edge : ℕ
  pub is : allowed edge
  pub one : ℕ
  pub other : ℕ
  pub joined : Joins edges edge one other
  pub reached : IsGrown grown one
  pub unreached : IsGrown grown other → ⊥

crosses : {edges : List Edge} (grown : List Bool) {allowed : ℕ → Type 0} {one other : ℕ} → Path (Joins edges) allowed one other → IsGrown grown one → (IsGrown grown other → ⊥) → Crossing edges grown allowed
crosses grown here reached unreached = absurd (unreached reached)
crosses grown (over {from} {mid} edge is joined rest) reached unreached = elim (is_set grown mid) [
  | inl on ↦ crosses grown rest on unreached
  | inr off ↦ record { edge = edge; is = is; one = from; other = mid; joined = joined; reached = reached; unreached = off }
]

weight_less : (one two : Ranked) → one.weight < two.weight → is_lt (rank_order one two) ≡ true
weight_less one two less = ap (λ (r : Ordering). is_lt (ordering_then r (nat_cmp two.number.0 one.number.0))) (sym (nat_cmp_is one.weight two.weight Less less))

number_less : (one two : Ranked) → one.weight ≡ two.weight → two.number.0 < one.number.0 → is_lt (rank_order one two) ≡ true
number_less one two same less =
    ap (λ (r : Ordering). is_lt (ordering_then r (nat_cmp two.number.0 one.number.0))) (sym (nat_cmp_is one.weight two.weight Equal same))
    ∙ ap is_lt (sym (nat_cmp_is two.number.0 one.number.0 Less less))

-- no edge ranks before one that comes first
none_before : (weights : List ℕ) (number other : ℕ) (waiting : List Ranked) → ComesFirst (ranked_of weights number) waiting → IsAmong waiting (ranked_of weights other) → RanksBefore weights other number → ⊥
none_before weights number other waiting first is before = not_less (all_among (λ (item : Ranked). is_lt (rank_order (ranked_of weights number) item) ≡ false) waiting (ranked_of weights other) first is) before
  where
    not_less : is_lt (rank_order (ranked_of weights number) (ranked_of weights other)) ≡ false → RanksBefore weights other number → ⊥
    not_less above (heavier more) = let yes = weight_less (ranked_of weights number) (ranked_of weights other) more in absurd (let clash : true ≡ false = sym yes ∙ above in cc)
    not_less above (sooner same less) = let yes = number_less (ranked_of weights number) (ranked_of weights other) (sym same) less in absurd (let clash : true ≡ false = sym yes ∙ above in cc)

same_number : (weights : List ℕ) (one other : ℕ) → ranked_of weights one ≡ ranked_of weights other → one ≡ other
same_number weights one other same = ap (λ (item : Ranked). item.number.0) same

not_grown : (grown : List Bool) (block : ℕ) → slice_get grown block ≡ Some false → IsGrown grown block → ⊥
not_grown grown block off on = absurd (let clash : Some false ≡ Some true = sym off ∙ on in cc)

module _ (edges : List Edge) (weights : List ℕ) (grown marks : List Bool) (waiting : List Ranked) (root number beyond : ℕ)
    (growing : IsGrowing edges weights grown marks (ranked_of weights number ∷ waiting) root)
    (first : ComesFirst (ranked_of weights number) waiting)
    (leads : LeadsBeyond edges grown number beyond)
    (within : number < length marks) where
  abbrev grown_now : List Bool
  grown_now = slice_set grown beyond true

  abbrev marks_now : List Bool
  marks_now = slice_set marks number false

  -- the edge that comes first is no witness
  first_chosen : IsWitness edges weights number → ⊥
  first_chosen (leaves out) = leaving_joins_none edges number leads.near beyond out leads.joined
  first_chosen (closes closed) =
      let cross = crosses grown (Closes-path (Joins-IsUndirected edges) number leads.near beyond leads.joined closed) leads.reached (not_grown grown beyond leads.unreached) in
      elim (growing.ahead cross.edge cross.one cross.other cross.joined cross.reached) [
        | inl on ↦ cross.unreached on
        | inr waits ↦ elim waits.waits [
          | inl same ↦ ranks_apart weights number (subst (λ (e : ℕ). RanksBefore weights e number) (same_number weights cross.edge number same) cross.is)
          | inr behind ↦ none_before weights number cross.edge waiting first behind cross.is
        ]
      ]

  stays_unmarked : (edge : ℕ) → IsUnmarked marks edge → IsUnmarked marks_now edge
  stays_unmarked edge is = elim (cases_eq edge number) [
    | inl same ↦ subst (IsUnmarked marks_now) (sym same) (set_here marks number false within)
    | inr differ ↦ set_elsewhere marks number edge false differ ∙ is
  ]

  chosen_now : (edge : ℕ) → IsUnmarked marks_now edge → IsWitness edges weights edge → ⊥
  chosen_now edge is witness = elim (cases_eq edge number) [
    | inl same ↦ first_chosen (subst (IsWitness edges weights) same witness)
    | inr differ ↦ growing.chosen edge (sym (set_elsewhere marks number edge false differ) ∙ is) witness
  ]

  beyond_grown : IsGrown grown_now beyond
  beyond_grown = set_here grown beyond true (slice_get_within grown beyond false leads.unreached)

  pub stays_grown : (block : ℕ) → IsGrown grown block → IsGrown grown_now block
  stays_grown block is = elim (cases_eq block beyond) [
    | inl same ↦ subst (IsGrown grown_now) (sym same) beyond_grown
    | inr differ ↦ set_elsewhere grown beyond block true differ ∙ is
  ]

  was_grown : (block : ℕ) → IsGrown grown_now block → (block ≡ beyond) ⊎ IsGrown grown block
  was_grown block is = elim (cases_eq block beyond) [
    | inl same ↦ inl same
    | inr differ ↦ inr (sym (set_elsewhere grown beyond block true differ) ∙ is)
  ]

  wider : {one other : ℕ} → Path (Joins edges) (IsUnmarked marks) one other → Path (Joins edges) (IsUnmarked marks_now) one other
  wider path = Path-wider stays_unmarked path

  rooted_at : (edge one other : ℕ) → Joins edges edge one other → IsGrown grown one → (IsGrown grown other → ⊥) → Path (Joins edges) (IsUnmarked marks_now) root one
  rooted_at edge one other joined on off = elim (growing.ahead edge one other joined on) [
    | inl other_on ↦ absurd (off other_on)
    | inr waits ↦ wider waits.rooted
  ]

  beyond_rooted : Path (Joins edges) (IsUnmarked marks_now) root beyond
  beyond_rooted =
      Path-append (rooted_at number leads.near beyond leads.joined leads.reached (not_grown grown beyond leads.unreached))
      (Path-edge number leads.near beyond (set_here marks number false within) leads.joined)

  -- what is grown joins the block beyond
  joins_beyond : (edge one : ℕ) → Joins edges edge one beyond → IsGrown grown one → Path (Joins edges) (IsUnmarked marks_now) one beyond
  joins_beyond edge one joined on =
      Path-append (Path-turned (Joins-IsUndirected edges) (rooted_at edge one beyond joined on (not_grown grown beyond leads.unreached))) beyond_rooted

  joined_now : (edge one other : ℕ) → Joins edges edge one other → IsGrown grown_now one → IsGrown grown_now other → Path (Joins edges) (IsUnmarked marks_now) one other
  joined_now edge one other joined one_on other_on = elim (was_grown one one_on) [
    | inl one_is ↦ elim (was_grown other other_on) [
      | inl other_is ↦ subst (λ (block : ℕ). Path (Joins edges) (IsUnmarked marks_now) block other) (other_is ∙ sym one_is) here
      | inr other_was ↦ Path-turned (Joins-IsUndirected edges)
          (subst (λ (block : ℕ). Path (Joins edges) (IsUnmarked marks_now) other block) (sym one_is)
          (joins_beyond edge other (subst (Joins edges edge other) one_is ((Joins-IsUndirected edges).turned edge one other joined)) other_was))
    ]
    | inr one_was ↦ elim (was_grown other other_on) [
      | inl other_is ↦ subst (Path (Joins edges) (IsUnmarked marks_now) one) (sym other_is) (joins_beyond edge one (subst (Joins edges edge one) other_is joined) one_was)
      | inr other_was ↦ wider (growing.joined edge one other joined one_was other_was)
    ]
  ]

  module _ (rows : List (Vec ℕ Global)) (are_rows : AreRows edges rows) (waiting_now : List Ranked) (put : IsPermutation (waiting ++ map (ranked_of weights) (row_of rows beyond)) waiting_now) where
    still_waits : (item : Ranked) → IsAmong waiting item → IsAmong waiting_now item
    still_waits item is = among_permuted _ waiting_now item put (among_front waiting (map (ranked_of weights) (row_of rows beyond)) item is)

    row_waits : (edge : ℕ) → IsAmong (row_of rows beyond) edge → IsAmong waiting_now (ranked_of weights edge)
    row_waits edge is = among_permuted _ waiting_now (ranked_of weights edge) put (among_end waiting (map (ranked_of weights) (row_of rows beyond)) (ranked_of weights edge) (among_map (ranked_of weights) (row_of rows beyond) edge is))

    ahead_now : (edge one other : ℕ) → Joins edges edge one other → IsGrown grown_now one → IsGrown grown_now other ⊎ Waits edges weights marks_now waiting_now root edge one
    ahead_now edge one other joined on = elim (was_grown one on) [
      | inl is ↦ inr (record {
        waits = row_waits edge (subst (λ (block : ℕ). IsAmong (row_of rows block) edge) is (are_rows.each edge one other joined));
        rooted = subst (Path (Joins edges) (IsUnmarked marks_now) root) (sym is) beyond_rooted;
      })
      | inr was ↦ elim (growing.ahead edge one other joined was) [
        | inl other_on ↦ inl (stays_grown other other_on)
        | inr waits ↦ elim waits.waits [
          | inl same ↦ elim ((Joins-IsUndirected edges).ends number leads.near beyond one other leads.joined (subst (λ (e : ℕ). Joins edges e one other) (same_number weights edge number same) joined)) [
            | inl ends ↦ inl (subst (IsGrown grown_now) ends.1 beyond_grown)
            | inr ends ↦ inl (stays_grown other (subst (IsGrown grown) ends.0 leads.reached))
          ]
          | inr behind ↦ inr (record { waits = still_waits (ranked_of weights edge) behind; rooted = wider waits.rooted })
        ]
      ]
    ]

    items_now : (item : Ranked) → IsAmong waiting_now item → (edge : ℕ) × (edge < length edges) × (item ≡ ranked_of weights edge)
    items_now item is = elim (among_either waiting (map (ranked_of weights) (row_of rows beyond)) item (among_back _ waiting_now item put is)) [
      | inl old ↦ growing.items item (inr old)
      | inr new ↦ let from = from_map (ranked_of weights) (row_of rows beyond) item new in (from.0, are_rows.within beyond from.0 from.1, from.2)
    ]

    -- the tree with the edge and the block beyond
    pub grows_on : IsGrowing edges weights grown_now marks_now waiting_now root
    grows_on = record { chosen = chosen_now; joined = joined_now; ahead = ahead_now; items = items_now }

-- what is taken first and then waits is what waited
pub waited_before : (edges : List Edge) (weights : List ℕ) (grown marks : List Bool) (before after : List Ranked) (root : ℕ)
    → IsPermutation before after → IsGrowing edges weights grown marks before root → IsGrowing edges weights grown marks after root
waited_before edges weights grown marks before after root permuted growing = record {
  chosen = growing.chosen;
  joined = growing.joined;
  ahead = ahead;
  items = λ item is. growing.items item (among_back before after item permuted is);
}
  where
    ahead : (edge one other : ℕ) → Joins edges edge one other → IsGrown grown one → IsGrown grown other ⊎ Waits edges weights marks after root edge one
    ahead edge one other joined on = elim (growing.ahead edge one other joined on) [
      | inl other_on ↦ inl other_on
      | inr waits ↦ inr (record { waits = among_permuted before after (ranked_of weights edge) permuted waits.waits; rooted = waits.rooted })
    ]

ends_grown : (grown : List Bool) (block : ℕ) → block < length grown → (IsGrown grown block) ⊎ (slice_get grown block ≡ Some false)
ends_grown [] block within = absurd (omega arith)
ends_grown (true ∷ grown) zero within = inl refl
ends_grown (false ∷ grown) zero within = inr refl
ends_grown (mark ∷ grown) (suc block) within = ends_grown grown block (omega arith)

-- where none waits, the tree is whole
pub none_waits : (edges : List Edge) (weights : List ℕ) (grown marks : List Bool) (root : ℕ) → IsGrowing edges weights grown marks [] root → HasGrown edges weights grown marks
none_waits edges weights grown marks root growing = record {
  chosen = growing.chosen;
  joined = growing.joined;
  whole = λ number one other joined on. elim (growing.ahead number one other joined on) [ inl other_on ↦ other_on | inr waits ↦ absurd waits.waits ];
}

-- a root that isn't grown begins a tree
module _ (edges : List Edge) (weights : List ℕ) (grown marks : List Bool) (rows : List (Vec ℕ Global)) (are_rows : AreRows edges rows) (root : ℕ) (waiting : List Ranked)
    (before : HasGrown edges weights grown marks) (within : root < length grown) (fresh : slice_get grown root ≡ Some false)
    (put : IsPermutation ([] ++ map (ranked_of weights) (row_of rows root)) waiting) where
  rooted_or : (block : ℕ) → IsGrown (slice_set grown root true) block → (block ≡ root) ⊎ IsGrown grown block
  rooted_or block on = elim (cases_eq block root) [
    | inl same ↦ inl same
    | inr differ ↦ inr (sym (set_elsewhere grown root block true differ) ∙ on)
  ]

  rooted_stays : (block : ℕ) → IsGrown grown block → IsGrown (slice_set grown root true) block
  rooted_stays block on = elim (cases_eq block root) [
    | inl same ↦ subst (IsGrown (slice_set grown root true)) (sym same) (set_here grown root true within)
    | inr differ ↦ set_elsewhere grown root block true differ ∙ on
  ]

  -- no edge joins the root to what is grown
  apart : (number one : ℕ) → Joins edges number one root → IsGrown grown one → ⊥
  apart number one joined on = not_grown grown root fresh (before.whole number one root joined on)

  tree_joined : (number one other : ℕ) → Joins edges number one other → IsGrown (slice_set grown root true) one → IsGrown (slice_set grown root true) other → Path (Joins edges) (IsUnmarked marks) one other
  tree_joined number one other joined one_on other_on = elim (rooted_or one one_on) [
    | inl one_is ↦ elim (rooted_or other other_on) [
      | inl other_is ↦ subst (λ (block : ℕ). Path (Joins edges) (IsUnmarked marks) block other) (other_is ∙ sym one_is) here
      | inr other_was ↦ absurd (apart number other (subst (Joins edges number other) one_is ((Joins-IsUndirected edges).turned number one other joined)) other_was)
    ]
    | inr one_was ↦ elim (rooted_or other other_on) [
      | inl other_is ↦ absurd (apart number one (subst (Joins edges number one) other_is joined) one_was)
      | inr other_was ↦ before.joined number one other joined one_was other_was
    ]
  ]

  tree_ahead : (number one other : ℕ) → Joins edges number one other → IsGrown (slice_set grown root true) one → IsGrown (slice_set grown root true) other ⊎ Waits edges weights marks waiting root number one
  tree_ahead number one other joined on = elim (rooted_or one on) [
    | inl is ↦ inr (record {
      waits = among_permuted _ waiting (ranked_of weights number) put (among_map (ranked_of weights) (row_of rows root) number (subst (λ (block : ℕ). IsAmong (row_of rows block) number) is (are_rows.each number one other joined)));
      rooted = subst (Path (Joins edges) (IsUnmarked marks) root) (sym is) here;
    })
    | inr was ↦ inl (rooted_stays other (before.whole number one other joined was))
  ]

  pub begins : IsGrowing edges weights (slice_set grown root true) marks waiting root
  begins = record {
    chosen = before.chosen;
    joined = tree_joined;
    ahead = tree_ahead;
    items = λ item is.
        let from = from_map (ranked_of weights) (row_of rows root) item (among_back _ waiting item put is) in
        (from.0, are_rows.within root from.0 from.1, from.2);
  }

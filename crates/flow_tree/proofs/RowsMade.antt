-- How the rows of edges come about.
use Rattle.std.proofs.Common.{◌≡◌, ◌⊎◌, inl, inr, ℕ, zero, suc, ◌+◌, ◌<◌, List, [], ◌∷◌, ◌++◌, length, take, drop, refl, sym, ap, ◌∙◌, subst, arith}
use Rattle.std.proofs.lemmas.Bool.{cases_eq, cases_lt}
use Rattle.std.proofs.lemmas.List.{take_all, drop_all, append-nil}
use Rattle.std.specs.declared.alloc.Global.{Global}
use Rattle.std.specs.declared.vec.Vec.{Vec}
use Rattle.flow_graph.specs.declared.edge.Edge.{Edge}
use Rattle.graph_paths.specs.Forests.{IsAmong}
use Rattle.graph_paths.proofs.LawsOfMembers.{among_front, among_end, among_either}
use Rattle.flow_tree.specs.WitnessEdges.{LeadsTo, Joins, joins_forth}
use Rattle.flow_tree.specs.Inner.Growing.{row_of, AreRows}
use Rattle.flow_tree.specs.Inner.Rows.{PutsInRow, HaveJoined}
use Rattle.flow_tree.proofs.LawsOfJoins.{Joins-IsUndirected, joins_within}

stays_in_row : (old new : List (Vec ℕ Global)) (block number : ℕ) → PutsInRow old new block number → (other edge : ℕ) → IsAmong (row_of old other) edge → IsAmong (row_of new other) edge
stays_in_row old new block number puts other edge is = elim (cases_eq other block) [
  | inl same ↦ subst (λ (place : ℕ). IsAmong (row_of new place) edge) (sym same)
      (subst (λ (xs : List ℕ). IsAmong xs edge) (sym puts.here) (among_front (row_of old block) (number ∷ []) edge (subst (λ (place : ℕ). IsAmong (row_of old place) edge) same is)))
  | inr differ ↦ subst (λ (xs : List ℕ). IsAmong xs edge) (sym (puts.others other differ)) is
]

comes_in_row : (old new : List (Vec ℕ Global)) (block number : ℕ) → PutsInRow old new block number → IsAmong (row_of new block) number
comes_in_row old new block number puts = subst (λ (xs : List ℕ). IsAmong xs number) (sym puts.here) (among_end (row_of old block) (number ∷ []) number (inl refl))

only_in_row : (old new : List (Vec ℕ Global)) (block number : ℕ) → PutsInRow old new block number → (other edge : ℕ) → IsAmong (row_of new other) edge → (edge ≡ number) ⊎ IsAmong (row_of old other) edge
only_in_row old new block number puts other edge is = elim (cases_eq other block) [
  | inl same ↦ elim (among_either (row_of old block) (number ∷ []) edge (subst (λ (xs : List ℕ). IsAmong xs edge) puts.here (subst (λ (place : ℕ). IsAmong (row_of new place) edge) same is))) [
    | inl old_is ↦ inr (subst (λ (place : ℕ). IsAmong (row_of old place) edge) (sym same) old_is)
    | inr new_is ↦ elim new_is [ inl equal ↦ inl equal | inr no_way ↦ absurd no_way ]
  ]
  | inr differ ↦ inr (subst (λ (xs : List ℕ). IsAmong xs edge) (puts.others other differ) is)
]

-- an edge in the rows of both its ends
pub both_put : (edges : List Edge) (old mid new : List (Vec ℕ Global)) (number source to : ℕ) → LeadsTo edges number source to → PutsInRow old mid source number → PutsInRow mid new to number
    → HaveJoined edges old number → HaveJoined edges new (number + 1)
both_put edges old mid new number source to leads first second before = record { each = each; within = within }
  where
    each : (edge one other : ℕ) → edge < number + 1 → Joins edges edge one other → IsAmong (row_of new one) edge
    each edge one other less joined = elim (cases_lt edge number) [
      | inl below ↦ stays_in_row mid new to number second one edge (stays_in_row old mid source number first one edge (before.each edge one other below joined))
      | inr above ↦
          let same : edge ≡ number = omega arith in
          elim ((Joins-IsUndirected edges).ends number source to one other (joins_forth leads) (subst (λ (e : ℕ). Joins edges e one other) same joined)) [
            | inl ends ↦ subst (λ (e : ℕ). IsAmong (row_of new one) e) (sym same)
                (subst (λ (place : ℕ). IsAmong (row_of new place) number) ends.0 (stays_in_row mid new to number second source number (comes_in_row old mid source number first)))
            | inr ends ↦ subst (λ (e : ℕ). IsAmong (row_of new one) e) (sym same)
                (subst (λ (place : ℕ). IsAmong (row_of new place) number) ends.1 (comes_in_row mid new to number second))
          ]
    ]

    within : (block edge : ℕ) → IsAmong (row_of new block) edge → edge < number + 1
    within block edge is = elim (only_in_row mid new to number second block edge is) [
      | inl same ↦ omega arith
      | inr mid_is ↦ elim (only_in_row old mid source number first block edge mid_is) [
        | inl same ↦ omega arith
        | inr old_is ↦ let less = before.within block edge old_is in omega arith
      ]
    ]

-- an edge that joins nothing is in no row
pub none_put : (edges : List Edge) (rows : List (Vec ℕ Global)) (number : ℕ) → ((one other : ℕ) → Joins edges number one other → ⊥) → HaveJoined edges rows number → HaveJoined edges rows (number + 1)
none_put edges rows number none_joined before = record {
  each = λ edge one other less joined. elim (cases_lt edge number) [
    | inl below ↦ before.each edge one other below joined
    | inr above ↦ let same : edge ≡ number = omega arith in absurd (none_joined one other (subst (λ (e : ℕ). Joins edges e one other) same joined))
  ];
  within = λ block edge is. let less = before.within block edge is in omega arith;
}

pub all_put : (edges : List Edge) (rows : List (Vec ℕ Global)) → HaveJoined edges rows (length edges) → AreRows edges rows
all_put edges rows whole = record { each = λ number one other joined. whole.each number one other (joins_within edges number one other joined) joined; within = whole.within }

pub none_yet : (edges : List Edge) (rows : List (Vec ℕ Global)) → ((block : ℕ) → row_of rows block ≡ []) → HaveJoined edges rows 0
none_yet edges rows empty = record {
  each = λ number one other less joined. absurd (omega arith);
  within = λ block number is. absurd (subst (λ (xs : List ℕ). IsAmong xs number) (empty block) is);
}

pub no_rows_empty : (block : ℕ) → row_of [] block ≡ []
no_rows_empty block = refl

pub one_empty_more : (rows : List (Vec ℕ Global)) (row : Vec ℕ Global) → row.items ≡ [] → ((block : ℕ) → row_of rows block ≡ []) → (block : ℕ) → row_of (rows ++ row ∷ []) block ≡ []
one_empty_more [] row is empty zero = is
one_empty_more [] row is empty (suc block) = refl
one_empty_more (first ∷ rows) row is empty zero = empty zero
one_empty_more (first ∷ rows) row is empty (suc block) = one_empty_more rows row is (λ place. empty (suc place)) block

-- a vector whose slice was written holds what the slice holds
pub written_back : {X : Type 0} (items new : List X) (len : ℕ) → len ≡ length items → length new ≡ length items → take len (new ++ drop (length new) items) ≡ new
written_back {X} items new len is same =
    ap (λ (rest : List X). take len (new ++ rest)) (drop_all (length new) items (omega (arith, same)))
    ∙ ap (take len) (append-nil new) ∙ take_all len new (omega (arith, is, same))

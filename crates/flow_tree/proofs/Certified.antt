-- What a forest's witnesses say of it, and the certificate of a witness.
use Rattle.std.proofs.Common.{◌≡◌, ◌⊎◌, inl, inr, ℕ, Bool, List, [], ◌∷◌, sym, subst, arith}
use Rattle.std.proofs.lemmas.Bool.{cases_eq}
use Rattle.flow_graph.specs.declared.edge.Edge.{Edge}
use Rattle.graph_paths.specs.Paths.{Path}
use Rattle.graph_paths.specs.Forests.{IsAmong}
use Rattle.graph_paths.proofs.LawsOfPaths.{Path-edge, Path-wider, Closes-wider, Closes-path}
use Rattle.graph_paths.proofs.LawsOfForests.{Retains-among, Retains-spans}
use Rattle.graph_paths.proofs.LawsOfTrails.{Trail-within}
use Rattle.flow_tree.specs.WitnessEdges.{LeadsTo, Joins, joins_forth, RanksBefore, IsWitness, leaves, closes, IsMarked, IsUnmarked, AreWitnesses, AreGrown, CutsCycles, IsTreePath, IsCertificate}
use Rattle.flow_tree.specs.Inner.Growing.{IsSpanning}
use Rattle.flow_tree.proofs.LawsOfJoins.{Joins-IsUndirected, LeadsTo-same, leaving_joins_none, ranks_apart, ranks_on, ranks_either}
use Rattle.flow_tree.proofs.Least.{ranked, kept, kept_acyclic, joins_ranked, among_ranked, mark_cases, both_marks, marked_dropped, IsSpanning-CutsCycles}
use Rattle.flow_tree.proofs.Ranked.{Better, kept_or_closed}

module _ (edges : List Edge) (weights : List ℕ) (marks : List Bool) (are : AreWitnesses edges weights marks) where
  -- what is kept is no witness
  kept_no_witness : (number : ℕ) → IsAmong (kept edges weights).kept number → IsWitness edges weights number → ⊥
  kept_no_witness number is (leaves out) =
      let ends = (ranked edges weights).ends number (Retains-among (kept edges weights).keeps number is) in
      leaving_joins_none edges number ends.0 ends.1 out (joins_forth ends.2)
  kept_no_witness number is (closes closed) = elim (kept_or_closed edges weights number (ranked edges weights).ranked (kept edges weights).keeps (Retains-among (kept edges weights).keeps number is)) [
    | inl both ↦ both.1 (among_ranked edges weights number closed)
    | inr better ↦ kept_acyclic edges weights number is
        (Closes-wider (λ other both. (both.0, λ same. ranks_apart weights number (subst (λ (e : ℕ). RanksBefore weights e number) same both.1))) number better)
  ]

  kept_unmarked_too : (number : ℕ) → IsAmong (kept edges weights).kept number → IsUnmarked marks number
  kept_unmarked_too number is =
      let less = (ranked edges weights).below number (Retains-among (kept edges weights).keeps number is) in
      elim (mark_cases marks number (omega (arith, less, are.count))) [
        | inl marked ↦ absurd (kept_no_witness number is (are.marked number marked))
        | inr unmarked ↦ unmarked
      ]

  joined_by_unmarked : (number one other : ℕ) → Joins edges number one other → Path (Joins edges) (IsUnmarked marks) one other
  joined_by_unmarked number one other joined =
      Path-wider kept_unmarked_too (Retains-spans (Joins-IsUndirected edges) (kept edges weights).keeps one other (Path-edge number one other (joins_ranked edges weights number one other joined) joined))

  -- the edges that aren't witnesses join what edges join
  pub AreWitnesses-IsSpanning : IsSpanning edges weights marks
  AreWitnesses-IsSpanning = record { count = are.count; chosen = are.unmarked; joined = joined_by_unmarked }

  -- the kept edges that rank before one, as a list
  pub record BetterList (list : List ℕ) (number : ℕ) : Type 0 where
    pub better : List ℕ
    pub among : (other : ℕ) → IsAmong better other → Better weights list number other
    pub back : (other : ℕ) → Better weights list number other → IsAmong better other

  ranks_known : (one number : ℕ) → RanksBefore weights one number ⊎ (RanksBefore weights one number → ⊥)
  ranks_known one number = elim (cases_eq one number) [
    | inl same ↦ inr (λ before. ranks_apart weights number (subst (λ (e : ℕ). RanksBefore weights e number) same before))
    | inr differ ↦ elim (ranks_either weights one number differ) [
      | inl before ↦ inl before
      | inr behind ↦ inr (λ before. ranks_apart weights number (ranks_on weights number one number behind before))
    ]
  ]

  better_list : (list : List ℕ) (number : ℕ) → BetterList list number
  better_list [] number = record { better = []; among = λ other is. absurd is; back = λ other both. absurd both.0 }
  better_list (first ∷ rest) number = next (better_list rest number)
    where
      next : BetterList rest number → BetterList (first ∷ rest) number
      next later = elim (ranks_known first number) [
        | inl before ↦ record {
          better = first ∷ later.better;
          among = λ other is. elim is [
            | inl same ↦ (inl same, subst (λ (e : ℕ). RanksBefore weights e number) (sym same) before)
            | inr behind ↦ (inr (later.among other behind).0, (later.among other behind).1)
          ];
          back = λ other both. elim both.0 [ inl same ↦ inl same | inr behind ↦ inr (later.back other (behind, both.1)) ];
        }
        | inr never ↦ record {
          better = later.better;
          among = λ other is. (inr (later.among other is).0, (later.among other is).1);
          back = λ other both. elim both.0 [
            | inl same ↦ absurd (never (subst (λ (e : ℕ). RanksBefore weights e number) same both.1))
            | inr behind ↦ later.back other (behind, both.1)
          ];
        }
      ]

  -- a path of the forest between the ends of a witness goes over edges that rank before it
  pub path_ranks_before : (number from to : ℕ) (path : List ℕ) → IsMarked marks number → LeadsTo edges number from to → IsTreePath edges marks path from to → (other : ℕ) → IsAmong path other → RanksBefore weights other number
  path_ranks_before number from to path marked leads tree other is =
      let better = better_list (kept edges weights).kept number in
      let cuts = IsSpanning-CutsCycles edges weights marks AreWitnesses-IsSpanning in
      elim (kept_or_closed edges weights number (ranked edges weights).ranked (kept edges weights).keeps (joins_ranked edges weights number from to (joins_forth leads))) [
        | inl both ↦ absurd (marked_dropped edges weights marks AreWitnesses-IsSpanning number from to marked (joins_forth leads) both.0)
        | inr closed ↦
            let joined = Path-wider better.back (Closes-path (Joins-IsUndirected edges) number from to (joins_forth leads) closed) in
            let there = Trail-within (Joins-IsUndirected edges) cases_eq (IsUnmarked marks) cuts.no_cycle path better.better from to tree.unmarked
            (λ e among. kept_unmarked_too e (better.among e among).0) tree.once tree.trail joined other is in
            (better.among other there).1
      ]

-- a forest that was grown cuts all cycles
pub grown_cuts : (edges : List Edge) (marks : List Bool) → AreGrown edges marks → CutsCycles edges marks
grown_cuts edges marks grown = IsSpanning-CutsCycles edges grown.weights marks (AreWitnesses-IsSpanning edges grown.weights marks grown.witnesses)

pub grown_joins : (edges : List Edge) (marks : List Bool) → AreGrown edges marks → (number one other : ℕ) → Joins edges number one other → Path (Joins edges) (IsUnmarked marks) one other
grown_joins edges marks grown number one other joined = joined_by_unmarked edges grown.weights marks grown.witnesses number one other joined

pub certified : (edges : List Edge) (marks : List Bool) (number from to : ℕ) (path : List ℕ) → IsMarked marks number → LeadsTo edges number from to → IsTreePath edges marks path from to → IsCertificate edges marks number path
certified edges marks number from to path marked leads tree = record {
  of_witness = λ one other marked_too again.
      let same = LeadsTo-same edges number from to one other leads again in
      subst (λ (place : ℕ). IsTreePath edges marks path place other) same.0 (subst (IsTreePath edges marks path from) same.1 tree);
  before = λ weights are other is. path_ranks_before edges weights marks are number from to path marked leads tree other is;
  of_tree_edge = λ unmarked. absurd (both_marks marks number marked unmarked);
  of_leaving = λ out. absurd (leaving_joins_none edges number from to out (joins_forth leads));
}

pub none_needed : (edges : List Edge) (marks : List Bool) (number : ℕ) (path : List ℕ) → path ≡ [] → ((from to : ℕ) → IsMarked marks number → LeadsTo edges number from to → ⊥) → IsCertificate edges marks number path
none_needed edges marks number path empty none = record {
  of_witness = λ from to marked leads. absurd (none from to marked leads);
  before = λ weights are other is. absurd (subst (λ (xs : List ℕ). IsAmong xs other) empty is);
  of_tree_edge = λ unmarked. empty;
  of_leaving = λ out. empty;
}

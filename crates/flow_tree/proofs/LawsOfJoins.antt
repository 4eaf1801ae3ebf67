-- What edges join, and how they rank. Laws that have no code, and proofs of every crate may cite them.
use Rattle.std.proofs.Common.{◌≡◌, ◌≢◌, ◌⊎◌, inl, inr, ℕ, ◌<◌, ◌≤◌, List, length, Option, Some, None, sym, ◌∙◌, ap, arith}
use Rattle.std.specs.Prelude.{slice_index}
use Rattle.std.specs.Option.{option_map}
use Rattle.std.proofs.lemmas.Bool.{cases_eq, cases_lt}
use Rattle.std.proofs.lemmas.Option.{slice_get_cases, some_pair_parts, same_Some, none-some}
use Rattle.flow_graph.specs.declared.edge.Edge.{Edge}
use Rattle.graph_paths.specs.Paths.{Closes, IsUndirected}
use Rattle.graph_paths.specs.Forests.{IsAmong, IsReadable}
use Rattle.graph_paths.proofs.LawsOfPaths.{Closes-path}
use Rattle.graph_paths.proofs.LawsOfWeights.{IsKnown, Path-decides}
use Rattle.flow_tree.specs.WitnessEdges.{ends_of, LeadsTo, LeavesCode, Joins, joins_forth, joins_back, RanksBefore, heavier, sooner}

same_source : (one two three four : ℕ) → ◌≡◌ {A = Option (ℕ × Option ℕ)} (Some (one, Some two)) (Some (three, Some four)) → one ≡ three
same_source one two three four same = (some_pair_parts one three (Some two) (Some four) same).0

same_target : (one two three four : ℕ) → ◌≡◌ {A = Option (ℕ × Option ℕ)} (Some (one, Some two)) (Some (three, Some four)) → two ≡ four
same_target one two three four same = same_Some two four (some_pair_parts one three (Some two) (Some four) same).1

turned_joins : (edges : List Edge) (number one other : ℕ) → Joins edges number one other → Joins edges number other one
turned_joins edges number one other (joins_forth leads) = joins_back leads
turned_joins edges number one other (joins_back leads) = joins_forth leads

same_ends : (edges : List Edge) (number one other three four : ℕ) → Joins edges number one other → Joins edges number three four → ((one ≡ three) × (other ≡ four)) ⊎ ((one ≡ four) × (other ≡ three))
same_ends edges number one other three four (joins_forth leads) (joins_forth again) = inl (same_source one other three four (sym leads ∙ again), same_target one other three four (sym leads ∙ again))
same_ends edges number one other three four (joins_forth leads) (joins_back again) = inr (same_source one other four three (sym leads ∙ again), same_target one other four three (sym leads ∙ again))
same_ends edges number one other three four (joins_back leads) (joins_forth again) = inr (same_target other one three four (sym leads ∙ again), same_source other one three four (sym leads ∙ again))
same_ends edges number one other three four (joins_back leads) (joins_back again) = inl (same_target other one four three (sym leads ∙ again), same_source other one four three (sym leads ∙ again))

-- what edges join has no direction
pub Joins-IsUndirected : (edges : List Edge) → IsUndirected (Joins edges)
Joins-IsUndirected edges = record { turned = turned_joins edges; ends = same_ends edges }

-- an edge has two ends, or it leaves, or there is none with the number
pub data EdgeKind (edges : List Edge) (number : ℕ) : Type 0 where
  inner : (from to : ℕ) → number < length edges → LeadsTo edges number from to → EdgeKind edges number
  leaving : number < length edges → LeavesCode edges number → EdgeKind edges number
  missing : length edges ≤ number → ends_of edges number ≡ None → EdgeKind edges number

kind_by : (edges : List Edge) (number source : ℕ) (to : Option ℕ) → number < length edges → ends_of edges number ≡ Some (source, to) → EdgeKind edges number
kind_by edges number source None within is = leaving within (record { from = source; ends = is })
kind_by edges number source (Some to) within is = inner source to within is

pub edge_kind : (edges : List Edge) (number : ℕ) → EdgeKind edges number
edge_kind edges number = elim (slice_get_cases edges number).1 [
  | inl there ↦ kind_by edges number there.0.source there.0.to there.1 (ap (λ (found : Option Edge). option_map (λ (edge : Edge). (edge.source, edge.to)) found) there.2)
  | inr past ↦ missing past.0 (ap (λ (found : Option Edge). option_map (λ (edge : Edge). (edge.source, edge.to)) found) past.1)
]

leads_nowhere : (edges : List Edge) (number from to : ℕ) (ends : Option (ℕ × Option ℕ)) → ends_of edges number ≡ ends → (Some (from, Some to) ≡ ends → ⊥) → LeadsTo edges number from to → ⊥
leads_nowhere edges number from to ends is apart leads = apart (sym leads ∙ is)

-- an edge that leaves joins nothing
pub leaving_joins_none : (edges : List Edge) (number one other : ℕ) → LeavesCode edges number → Joins edges number one other → ⊥
leaving_joins_none edges number one other leaves (joins_forth leads) =
    leads_nowhere edges number one other (Some (leaves.from, None)) leaves.ends (λ same. none-some other (sym (some_pair_parts one leaves.from (Some other) None same).1)) leads
leaving_joins_none edges number one other leaves (joins_back leads) =
    leads_nowhere edges number other one (Some (leaves.from, None)) leaves.ends (λ same. none-some one (sym (some_pair_parts other leaves.from (Some one) None same).1)) leads

missing_joins_none : (edges : List Edge) (number one other : ℕ) → ends_of edges number ≡ None → Joins edges number one other → ⊥
missing_joins_none edges number one other is (joins_forth leads) = leads_nowhere edges number one other None is (λ same. cc) leads
missing_joins_none edges number one other is (joins_back leads) = leads_nowhere edges number other one None is (λ same. cc) leads

-- an edge that joins has a number of the list
pub joins_within : (edges : List Edge) (number one other : ℕ) → Joins edges number one other → number < length edges
joins_within edges number one other joined = elim (edge_kind edges number) [
  | inner from to within leads ↦ within
  | leaving within leaves ↦ within
  | missing past is ↦ absurd (missing_joins_none edges number one other is joined)
]

-- the ends of an edge can be read, or there are none
pub Joins-IsReadable : (edges : List Edge) → IsReadable (Joins edges)
Joins-IsReadable edges = record {
  same_edge = cases_eq;
  same_place = cases_eq;
  ends = λ number. elim (edge_kind edges number) [
    | inner from to within leads ↦ inl (from, to, joins_forth leads)
    | leaving within leaves ↦ inr (λ one other joined. leaving_joins_none edges number one other leaves joined)
    | missing past is ↦ inr (λ one other joined. missing_joins_none edges number one other is joined)
  ];
}

-- an edge doesn't rank before itself
pub ranks_apart : (weights : List ℕ) (number : ℕ) → RanksBefore weights number number → ⊥
ranks_apart weights number (heavier more) = absurd (omega arith)
ranks_apart weights number (sooner same less) = absurd (omega arith)

pub ranks_on : (weights : List ℕ) (one two three : ℕ) → RanksBefore weights one two → RanksBefore weights two three → RanksBefore weights one three
ranks_on weights one two three (heavier more) (heavier again) = heavier (omega arith)
ranks_on weights one two three (heavier more) (sooner same less) = heavier (omega arith)
ranks_on weights one two three (sooner same less) (heavier more) = heavier (omega arith)
ranks_on weights one two three (sooner same less) (sooner again later) = sooner (same ∙ again) (omega arith)

-- of two edges one ranks before the other
pub ranks_either : (weights : List ℕ) (one two : ℕ) → one ≢ two → RanksBefore weights one two ⊎ RanksBefore weights two one
ranks_either weights one two differ = elim (cases_lt (slice_index weights two) (slice_index weights one)) [
  | inl more ↦ inl (heavier more)
  | inr no_more ↦ elim (cases_lt (slice_index weights one) (slice_index weights two)) [
    | inl less ↦ inr (heavier less)
    | inr no_less ↦ elim (cases_lt one two) [
      | inl first ↦ inl (sooner (omega arith) first)
      | inr later ↦ inr (sooner (omega arith) (omega arith))
    ]
  ]
]

-- what ranks before another weighs at least as much
pub ranks_weigh : (weights : List ℕ) (one two : ℕ) → RanksBefore weights one two → slice_index weights two ≤ slice_index weights one
ranks_weigh weights one two (heavier more) = omega arith
ranks_weigh weights one two (sooner same less) = omega arith

-- whether an edge closes over a list
pub Closes-decides : (edges : List Edge) (list : List ℕ) (number : ℕ) → IsKnown (Closes (Joins edges) (IsAmong list) number)
Closes-decides edges list number = elim ((Joins-IsReadable edges).ends number) [
  | inl ends ↦ elim (Path-decides (Joins-IsUndirected edges) (Joins-IsReadable edges) list ends.0 ends.1) [
    | inl path ↦ inl (record { from = ends.0; to = ends.1; ends = ends.2; path = path })
    | inr apart ↦ inr (λ closes. apart (Closes-path (Joins-IsUndirected edges) number ends.0 ends.1 ends.2 closes))
  ]
  | inr none ↦ inr (λ closes. none closes.from closes.to closes.ends)
]

-- an edge leads from one block to one
pub LeadsTo-same : (edges : List Edge) (number from to one other : ℕ) → LeadsTo edges number from to → LeadsTo edges number one other → (from ≡ one) × (to ≡ other)
LeadsTo-same edges number from to one other leads again = (same_source from to one other (sym leads ∙ again), same_target from to one other (sym leads ∙ again))

-- Edges in a list by their ranks, the worst first, and what is kept of them.
use Rattle.std.proofs.Common.{◌≡◌, ◌⊎◌, inl, inr, ℕ, zero, suc, ◌<◌, List, [], ◌∷◌, refl, sym, subst, arith}
use Rattle.std.specs.Prelude.{⊤, slice_index}
use Rattle.std.proofs.lemmas.Bool.{cases_lt}
use Rattle.flow_graph.specs.declared.edge.Edge.{Edge}
use Rattle.graph_paths.specs.Paths.{Closes}
use Rattle.graph_paths.specs.Forests.{IsAmong, StandOnce, Retains, none, dropped, chosen, BestLast}
use Rattle.graph_paths.proofs.LawsOfPaths.{Path-wider, Closes-wider}
use Rattle.graph_paths.proofs.LawsOfForests.{Retains-among, Retains-spans}
use Rattle.flow_tree.specs.WitnessEdges.{LeadsTo, Joins, joins_forth, RanksBefore}
use Rattle.flow_tree.proofs.LawsOfJoins.{Joins-IsUndirected, inner, leaving, missing, edge_kind, leaving_joins_none, joins_within, ranks_apart, ranks_on, ranks_either, ranks_weigh, Closes-decides}

-- each edge of the list ranks behind those that stand behind it
abbrev pub AreRanked : (weights : List ℕ) → List ℕ → Type 0
AreRanked weights [] = ⊤
AreRanked weights (edge ∷ rest) = ((other : ℕ) → IsAmong rest other → RanksBefore weights other edge) × AreRanked weights rest

record Put (weights : List ℕ) (edge : ℕ) (list : List ℕ) : Type 0 where
  pub all : List ℕ
  pub ranked : AreRanked weights all
  pub among : (other : ℕ) → IsAmong all other → (other ≡ edge) ⊎ IsAmong list other
  pub here : IsAmong all edge
  pub there : (other : ℕ) → IsAmong list other → IsAmong all other

put_behind : (weights : List ℕ) (edge first : ℕ) (list : List ℕ) → RanksBefore weights edge first → ((other : ℕ) → IsAmong list other → RanksBefore weights other first) → Put weights edge list → Put weights edge (first ∷ list)
put_behind weights edge first list better others later = record {
  all = first ∷ later.all;
  ranked = (λ other is. elim (later.among other is) [ inl same ↦ subst (λ (e : ℕ). RanksBefore weights e first) (sym same) better | inr behind ↦ others other behind ], later.ranked);
  among = λ other is. elim is [ inl same ↦ inr (inl same) | inr behind ↦ elim (later.among other behind) [ inl same ↦ inl same | inr old ↦ inr (inr old) ] ];
  here = inr later.here;
  there = λ other is. elim is [ inl same ↦ inl same | inr behind ↦ inr (later.there other behind) ];
}

put_first : (weights : List ℕ) (edge first : ℕ) (list : List ℕ) → RanksBefore weights first edge → AreRanked weights (first ∷ list) → Put weights edge (first ∷ list)
put_first weights edge first list worse ranked = record {
  all = edge ∷ (first ∷ list);
  ranked = (
    λ other is. elim is [
      | inl same ↦ subst (λ (e : ℕ). RanksBefore weights e edge) (sym same) worse
      | inr behind ↦ ranks_on weights other first edge (ranked.0 other behind) worse
    ],
    ranked,
  );
  among = λ other is. is;
  here = inl refl;
  there = λ other is. inr is;
}

put_in_rank : (weights : List ℕ) (edge : ℕ) (list : List ℕ) → AreRanked weights list → (IsAmong list edge → ⊥) → Put weights edge list
put_in_rank weights edge [] ranked absent = record {
  all = edge ∷ [];
  ranked = (λ other is. absurd is, tt);
  among = λ other is. is;
  here = inl refl;
  there = λ other is. absurd is;
}
put_in_rank weights edge (first ∷ list) ranked absent = elim (ranks_either weights edge first (λ same. absent (inl same))) [
  | inl better ↦ put_behind weights edge first list better ranked.0 (put_in_rank weights edge list ranked.1 (λ is. absent (inr is)))
  | inr worse ↦ put_first weights edge first list worse ranked
]

-- the edges with two ends, of the first so many
pub record AllRanked (edges : List Edge) (weights : List ℕ) (count : ℕ) : Type 0 where
  pub all : List ℕ
  pub ranked : AreRanked weights all
  pub below : (edge : ℕ) → IsAmong all edge → edge < count
  pub ends : (edge : ℕ) → IsAmong all edge → (from : ℕ) × (to : ℕ) × LeadsTo edges edge from to
  pub inner : (edge from to : ℕ) → edge < count → LeadsTo edges edge from to → IsAmong all edge

same_below : (edges : List Edge) (weights : List ℕ) (count : ℕ) → AllRanked edges weights count → ((from to : ℕ) → Joins edges count from to → ⊥) → AllRanked edges weights (suc count)
same_below edges weights count fewer none_joined = record {
  all = fewer.all;
  ranked = fewer.ranked;
  below = λ edge is. let less = fewer.below edge is in omega arith;
  ends = fewer.ends;
  inner = λ edge from to less leads. elim (cases_lt edge count) [
    | inl before ↦ fewer.inner edge from to before leads
    | inr last ↦ let same : edge ≡ count = omega arith in absurd (none_joined from to (joins_forth (subst (λ (e : ℕ). LeadsTo edges e from to) same leads)))
  ];
}

one_more_below : (edges : List Edge) (weights : List ℕ) (count source target : ℕ) → LeadsTo edges count source target → (fewer : AllRanked edges weights count) → Put weights count fewer.all → AllRanked edges weights (suc count)
one_more_below edges weights count source target last_leads fewer put = record {
  all = put.all;
  ranked = put.ranked;
  below = λ edge is. elim (put.among edge is) [ inl same ↦ omega arith | inr old ↦ let less = fewer.below edge old in omega arith ];
  ends = λ edge is. elim (put.among edge is) [
    | inl same ↦ (source, target, subst (λ (e : ℕ). LeadsTo edges e source target) (sym same) last_leads)
    | inr old ↦ fewer.ends edge old
  ];
  inner = λ edge from to less leads. elim (cases_lt edge count) [
    | inl before ↦ put.there edge (fewer.inner edge from to before leads)
    | inr last ↦ let same : edge ≡ count = omega arith in subst (IsAmong put.all) (sym same) put.here
  ];
}

not_below_itself : (edges : List Edge) (weights : List ℕ) (count : ℕ) (fewer : AllRanked edges weights count) → IsAmong fewer.all count → ⊥
not_below_itself edges weights count fewer is = let less = fewer.below count is in absurd (omega arith)

pub all_ranked : (edges : List Edge) (weights : List ℕ) (count : ℕ) → AllRanked edges weights count
all_ranked edges weights zero = record { all = []; ranked = tt; below = λ edge is. absurd is; ends = λ edge is. absurd is; inner = λ edge from to less leads. absurd (omega arith) }
all_ranked edges weights (suc count) = next (all_ranked edges weights count)
  where
    next : AllRanked edges weights count → AllRanked edges weights (suc count)
    next fewer = elim (edge_kind edges count) [
      | inner from to within leads ↦ one_more_below edges weights count from to leads fewer (put_in_rank weights count fewer.all fewer.ranked (not_below_itself edges weights count fewer))
      | leaving within leaves ↦ same_below edges weights count fewer (λ from to joined. leaving_joins_none edges count from to leaves joined)
      | missing past is ↦ same_below edges weights count fewer (λ from to joined. let less = joins_within edges count from to joined in absurd (omega arith))
    ]

pub AreRanked-StandOnce : (weights list : List ℕ) → AreRanked weights list → StandOnce list
AreRanked-StandOnce weights [] ranked = tt
AreRanked-StandOnce weights (edge ∷ rest) ranked = (λ is. ranks_apart weights edge (ranked.0 edge is), AreRanked-StandOnce weights rest ranked.1)

pub AreRanked-BestLast : (weights list : List ℕ) → AreRanked weights list → BestLast (slice_index weights) list
AreRanked-BestLast weights [] ranked = tt
AreRanked-BestLast weights (edge ∷ rest) ranked = (λ other is. ranks_weigh weights other edge (ranked.0 other is), AreRanked-BestLast weights rest ranked.1)

-- what is kept of a list of edges
pub record KeptOf (edges : List Edge) (list : List ℕ) : Type 0 where
  pub kept : List ℕ
  pub keeps : Retains (Joins edges) list kept

pub kept_of : (edges : List Edge) (list : List ℕ) → KeptOf edges list
kept_of edges [] = record { kept = []; keeps = none }
kept_of edges (edge ∷ rest) = next (kept_of edges rest)
  where
    next : KeptOf edges rest → KeptOf edges (edge ∷ rest)
    next behind = elim (Closes-decides edges rest edge) [
      | inl closes ↦ record { kept = behind.kept; keeps = dropped closes behind.keeps }
      | inr free ↦ record { kept = edge ∷ behind.kept; keeps = chosen free behind.keeps }
    ]

pub Retains-StandOnce : (edges : List Edge) {list kept : List ℕ} → StandOnce list → Retains (Joins edges) list kept → StandOnce kept
Retains-StandOnce edges once none = tt
Retains-StandOnce edges once (dropped closes keeps) = Retains-StandOnce edges once.1 keeps
Retains-StandOnce edges once (chosen {edge} free keeps) = (λ is. once.0 (Retains-among keeps edge is), Retains-StandOnce edges once.1 keeps)

-- those of a list that rank before an edge
abbrev pub Better : (weights list : List ℕ) (edge other : ℕ) → Type 0
Better weights list edge other = IsAmong list other × RanksBefore weights other edge

-- An edge is kept and doesn't close over better ones of the list, or it isn't, and closes over better ones that are kept.
abbrev pub KeptOrClosed : (edges : List Edge) (weights list kept : List ℕ) (edge : ℕ) → Type 0
KeptOrClosed edges weights list kept edge =
    (IsAmong kept edge × (Closes (Joins edges) (Better weights list edge) edge → ⊥)) ⊎ Closes (Joins edges) (Better weights kept edge) edge

-- better edges than one behind the first stand behind the first
better_behind : (weights : List ℕ) (first edge other : ℕ) (rest : List ℕ) → RanksBefore weights edge first → Better weights (first ∷ rest) edge other → Better weights rest edge other
better_behind weights first edge other rest before better = elim better.0 [
  | inl same ↦ absurd (ranks_apart weights first (ranks_on weights first edge first (subst (λ (e : ℕ). RanksBefore weights e edge) same better.1) before))
  | inr behind ↦ (behind, better.1)
]

-- and so do those that are better than the first
better_than_first : (weights : List ℕ) (first other : ℕ) (rest : List ℕ) → Better weights (first ∷ rest) first other → IsAmong rest other
better_than_first weights first other rest better = elim better.0 [
  | inl same ↦ absurd (ranks_apart weights first (subst (λ (e : ℕ). RanksBefore weights e first) same better.1))
  | inr behind ↦ behind
]

pub kept_or_closed : (edges : List Edge) (weights : List ℕ) {list kept : List ℕ} (number : ℕ) → AreRanked weights list → Retains (Joins edges) list kept → IsAmong list number → KeptOrClosed edges weights list kept number
kept_or_closed edges weights number ranked none is = absurd is
kept_or_closed edges weights number ranked (dropped {edge} {rest} {kept} closes keeps) (inl same) =
    subst (KeptOrClosed edges weights (edge ∷ rest) kept) (sym same) (inr (record {
      from = closes.from;
      to = closes.to;
      ends = closes.ends;
      path = Path-wider (λ other is. (is, ranked.0 other (Retains-among keeps other is))) (Retains-spans (Joins-IsUndirected edges) keeps closes.from closes.to closes.path);
    }))
kept_or_closed edges weights number ranked (dropped {edge} {rest} closes keeps) (inr behind) = elim (kept_or_closed edges weights number ranked.1 keeps behind) [
  | inl both ↦ inl (both.0, λ closed. both.1 (Closes-wider (λ other better. better_behind weights edge number other rest (ranked.0 number behind) better) number closed))
  | inr closed ↦ inr closed
]
kept_or_closed edges weights number ranked (chosen {edge} {rest} {kept} free keeps) (inl same) =
    subst (KeptOrClosed edges weights (edge ∷ rest) (edge ∷ kept)) (sym same)
    (inl (inl refl, λ closed. free (Closes-wider (λ other better. better_than_first weights edge other rest better) edge closed)))
kept_or_closed edges weights number ranked (chosen {edge} {rest} {kept} free keeps) (inr behind) = elim (kept_or_closed edges weights number ranked.1 keeps behind) [
  | inl both ↦ inl (inr both.0, λ closed. both.1 (Closes-wider (λ other better. better_behind weights edge number other rest (ranked.0 number behind) better) number closed))
  | inr closed ↦ inr (Closes-wider (λ other better. (inr better.0, better.1)) number closed)
]

-- The kept edges of a list whose best edges stand last weigh most among all forests of its edges. Laws that have no code, and proofs of
-- every crate may cite them.
use Rattle.std.proofs.Common.{◌≡◌, ◌≢◌, ◌⊎◌, inl, inr, ℕ, ◌+◌, ◌≤◌, List, [], ◌∷◌, refl, sym, ap, ◌∙◌, subst, arith}
use Rattle.std.specs.Prelude.{sum_by}
use Rattle.std.proofs.lemmas.List.Sums.{sum_by-cons}
use Rattle.graph_paths.specs.Paths.{Path, here, over, Closes, IsUndirected}
use Rattle.graph_paths.specs.Forests.{IsAmong, ClosesNone, StandOnce, Retains, none, dropped, chosen, IsReadable, BestLast, IsForest}
use Rattle.graph_paths.proofs.LawsOfPaths.{Path-append, Path-wider, Closes-path, Path-through, Through}
use Rattle.graph_paths.proofs.LawsOfForests.{HasNoCycle-within, ClosesNone-HasNoCycle, HasNoCycle-ClosesNone}
use Rattle.graph_paths.proofs.LawsOfTrails.{IsAmong-decides}

-- a fact that holds or doesn't
abbrev pub IsKnown : Type 0 → Type 0
IsKnown P = P ⊎ (P → ⊥)

both_known : {P Q : Type 0} → IsKnown P → IsKnown Q → IsKnown (P × Q)
both_known (inl p) (inl q) = inl (p, q)
both_known (inl p) (inr q) = inr (λ both. q both.1)
both_known (inr p) q = inr (λ both. p both.0)

either_known : {P Q : Type 0} → IsKnown P → IsKnown Q → IsKnown (P ⊎ Q)
either_known (inl p) q = inl (inl p)
either_known (inr p) (inl q) = inl (inr q)
either_known (inr p) (inr q) = inr (λ either. elim either [ inl one ↦ p one | inr other ↦ q other ])

known_as : {P Q : Type 0} → (P → Q) → (Q → P) → IsKnown P → IsKnown Q
known_as to from (inl p) = inl (to p)
known_as to from (inr p) = inr (λ q. p (from q))

module _ {E B : Type 0} {joins : E → B → B → Type 0} (undirected : IsUndirected joins) where
  -- a path over one edge more, by what the others join
  abbrev ByOne : List E → (from to one two : B) → Type 0
  ByOne rest from to one two =
      Path joins (IsAmong rest) one two ⊎ ((Path joins (IsAmong rest) one from × Path joins (IsAmong rest) to two) ⊎ (Path joins (IsAmong rest) one to × Path joins (IsAmong rest) from two))

  to_path : (edge : E) (rest : List E) (from to one two : B) → joins edge from to → ByOne rest from to one two → Path joins (IsAmong (edge ∷ rest)) one two
  to_path edge rest from to one two joined (inl path) = Path-wider (λ e is. inr is) path
  to_path edge rest from to one two joined (inr (inl paths)) =
      Path-append (Path-wider (λ e is. inr is) paths.0) (over edge (inl refl) joined (Path-wider (λ e is. inr is) paths.1))
  to_path edge rest from to one two joined (inr (inr paths)) =
      Path-append (Path-wider (λ e is. inr is) paths.0) (over edge (inl refl) (undirected.turned edge from to joined) (Path-wider (λ e is. inr is) paths.1))

  by_through : (edge : E) (rest : List E) (from to one two : B) → joins edge from to → Path joins (IsAmong rest) one two ⊎ Through joins (IsAmong rest) edge one two → ByOne rest from to one two
  by_through edge rest from to one two joined (inl path) = inl path
  by_through edge rest from to one two joined (inr through) = elim (undirected.ends edge from to through.from through.to joined through.ends) [
    | inl same ↦ inr (inl (
      subst (Path joins (IsAmong rest) one) (sym same.0) through.first,
      subst (λ (place : B). Path joins (IsAmong rest) place two) (sym same.1) through.last,
    ))
    | inr turned ↦ inr (inr (
      subst (Path joins (IsAmong rest) one) (sym turned.1) through.first,
      subst (λ (place : B). Path joins (IsAmong rest) place two) (sym turned.0) through.last,
    ))
  ]

  nowhere : {one two : B} → Path joins (IsAmong []) one two → one ≡ two
  nowhere here = refl
  nowhere (over edge is joined rest) = absurd is

  no_ends : (edge : E) (rest : List E) (one two : B) → ((from to : B) → joins edge from to → ⊥) → Path joins (IsAmong rest) one two ⊎ Through joins (IsAmong rest) edge one two → Path joins (IsAmong rest) one two
  no_ends edge rest one two none_joined (inl path) = path
  no_ends edge rest one two none_joined (inr through) = absurd (none_joined through.from through.to through.ends)

module _ {E B : Type 0} {joins : E → B → B → Type 0} (undirected : IsUndirected joins) (readable : IsReadable joins) where
  -- whether edges of a list join two places
  pub Path-decides : (list : List E) (one two : B) → IsKnown (Path joins (IsAmong list) one two)
  Path-decides [] one two = elim (readable.same_place one two) [
    | inl same ↦ inl (subst (Path joins (IsAmong []) one) same here)
    | inr differ ↦ inr (λ path. differ (nowhere undirected path))
  ]
  Path-decides (edge ∷ rest) one two = by_ends (Path-decides rest) (readable.ends edge)
    where
      by_ends : ((from to : B) → IsKnown (Path joins (IsAmong rest) from to)) → ((from : B) × (to : B) × joins edge from to) ⊎ ((from to : B) → joins edge from to → ⊥) → IsKnown (Path joins (IsAmong (edge ∷ rest)) one two)
      by_ends known (inl ends) =
          known_as (to_path undirected edge rest ends.0 ends.1 one two ends.2) (λ path. by_through undirected edge rest ends.0 ends.1 one two ends.2 (Path-through undirected edge path))
          (either_known (known one two) (either_known (both_known (known one ends.0) (known ends.1 two)) (both_known (known one ends.1) (known ends.0 two))))
      by_ends known (inr none_joined) =
          known_as (Path-wider (λ e is. inr is)) (λ path. no_ends undirected edge rest one two none_joined (Path-through undirected edge path)) (known one two)

-- an edge of a path whose ends others don't join
pub record Opens {E B : Type 0} (joins : E → B → B → Type 0) (allowed : E → Type 0) (others : List E) : Type 0 where
  pub edge : E
  pub is : allowed edge
  pub from : B
  pub to : B
  pub ends : joins edge from to
  pub apart : Path joins (IsAmong others) from to → ⊥

module _ {E B : Type 0} {joins : E → B → B → Type 0} (undirected : IsUndirected joins) (readable : IsReadable joins) where
  -- a path between places that others don't join has such an edge
  pub Path-opens : {allowed : E → Type 0} (others : List E) {one two : B} → Path joins allowed one two → (Path joins (IsAmong others) one two → ⊥) → Opens joins allowed others
  Path-opens others here apart = absurd (apart here)
  Path-opens others (over {from} {mid} edge is joined rest) apart = elim (Path-decides undirected readable others from mid) [
    | inl first ↦ Path-opens others rest (λ last. apart (Path-append first last))
    | inr open_here ↦ record { edge = edge; is = is; from = from; to = mid; ends = joined; apart = open_here }
  ]

-- a list without one of its edges
pub record Removed {E : Type 0} (weight : E → ℕ) (list : List E) (edge : E) : Type 0 where
  pub rest : List E
  pub once : StandOnce rest
  pub within : (other : E) → IsAmong rest other → IsAmong list other × (other ≢ edge)
  pub sum : sum_by weight list ≡ weight edge + sum_by weight rest

pub Removed-of : {E : Type 0} (weight : E → ℕ) (list : List E) (edge : E) → IsAmong list edge → StandOnce list → Removed weight list edge
Removed-of weight [] edge is once = absurd is
Removed-of {E} weight (first ∷ list) edge (inl is) once = record {
  rest = list;
  once = once.1;
  within = λ other among. (inr among, λ same. once.0 (subst (IsAmong list) (same ∙ is) among));
  sum = sum_by-cons weight first list ∙ ap (λ (e : E). weight e + sum_by weight list) (sym is);
}
Removed-of weight (first ∷ list) edge (inr is) once =
    let removed = Removed-of weight list edge is once.1 in
    record {
      rest = first ∷ removed.rest;
      once = (λ among. once.0 (removed.within first among).0, removed.once);
      within = λ other among. elim among [
        | inl same ↦ (inl same, λ equal. once.0 (subst (IsAmong list) (sym equal ∙ same) is))
        | inr behind ↦ (inr (removed.within other behind).0, (removed.within other behind).1)
      ];
      sum = omega (arith, sum_by-cons weight first list, sum_by-cons weight first removed.rest, removed.sum);
    }

module _ {E B : Type 0} {joins : E → B → B → Type 0} (undirected : IsUndirected joins) (readable : IsReadable joins) (weight : E → ℕ) where
  -- a forest that hasn't the first edge of the list
  behind_first : (edge : E) (rest forest : List E) → (IsAmong forest edge → ⊥) → IsForest joins (edge ∷ rest) forest → IsForest joins rest forest
  behind_first edge rest forest absent is = record {
    within = λ other among. elim (is.within other among) [
      | inl same ↦ absurd (absent (subst (IsAmong forest) same among))
      | inr behind ↦ behind
    ];
    once = is.once;
    no_cycle = is.no_cycle;
  }

  -- and one that has it, without it
  without_first : (edge : E) (rest forest : List E) → IsForest joins (edge ∷ rest) forest → (removed : Removed weight forest edge) → IsForest joins rest removed.rest
  without_first edge rest forest is removed = record {
    within = λ other among. elim (is.within other (removed.within other among).0) [
      | inl same ↦ absurd ((removed.within other among).1 same)
      | inr behind ↦ behind
    ];
    once = removed.once;
    no_cycle = HasNoCycle-within (λ other among. (removed.within other among).0) is.no_cycle;
  }

  -- in the place of an edge that closes over those behind it stands one of these, which is better
  replaced : (edge : E) (rest kept forest : List E) → Closes joins (IsAmong rest) edge → ((other : E) → IsAmong rest other → weight edge ≤ weight other)
      → ((other : List E) → IsForest joins rest other → sum_by weight other ≤ sum_by weight kept)
      → IsForest joins (edge ∷ rest) forest → IsAmong forest edge → sum_by weight forest ≤ sum_by weight kept
  replaced edge rest kept forest closes worst best is among =
      let removed = Removed-of weight forest edge among is.once in
      let fewer = without_first edge rest forest is removed in
      let apart : Path joins (IsAmong removed.rest) closes.from closes.to → ⊥ =
      λ path. is.no_cycle edge among (record { from = closes.from; to = closes.to; ends = closes.ends; path = Path-wider removed.within path }) in
      let opens = Path-opens undirected readable removed.rest closes.path apart in
      let closes_none : ClosesNone joins (opens.edge ∷ removed.rest) = (
        λ closed. opens.apart (Closes-path undirected opens.edge opens.from opens.to opens.ends closed),
        HasNoCycle-ClosesNone undirected removed.rest removed.once fewer.no_cycle,
      ) in
      let better : IsForest joins rest (opens.edge ∷ removed.rest) = record {
        within = λ other some. elim some [
          | inl same ↦ subst (IsAmong rest) (sym same) opens.is
          | inr behind ↦ fewer.within other behind
        ];
        once = (λ there. opens.apart (over opens.edge there opens.ends here), removed.once);
        no_cycle = ClosesNone-HasNoCycle undirected (opens.edge ∷ removed.rest) closes_none;
      } in
      omega (arith, removed.sum, sum_by-cons weight opens.edge removed.rest, worst opens.edge opens.is, best (opens.edge ∷ removed.rest) better)

  -- The kept edges of a list whose best edges stand last weigh at least as much as any forest of its edges.
  pub Retains-best : {list kept : List E} → Retains joins list kept → BestLast weight list → (forest : List E) → IsForest joins list forest → sum_by weight forest ≤ sum_by weight kept
  Retains-best none rises [] is = omega arith
  Retains-best none rises (edge ∷ forest) is = absurd (is.within edge (inl refl))
  Retains-best (dropped {edge} {rest} {kept} closes keeps) rises forest is = elim (IsAmong-decides readable.same_edge forest edge) [
    | inl among ↦ replaced edge rest kept forest closes rises.0 (Retains-best keeps rises.1) is among
    | inr absent ↦ Retains-best keeps rises.1 forest (behind_first edge rest forest absent is)
  ]
  Retains-best (chosen {edge} {rest} {kept} free keeps) rises forest is = elim (IsAmong-decides readable.same_edge forest edge) [
    | inl among ↦
        let removed = Removed-of weight forest edge among is.once in
        let best = Retains-best keeps rises.1 removed.rest (without_first edge rest forest is removed) in
        omega (arith, removed.sum, sum_by-cons weight edge kept, best)
    | inr absent ↦
        let best = Retains-best keeps rises.1 forest (behind_first edge rest forest absent is) in
        omega (arith, sum_by-cons weight edge kept, best)
  ]

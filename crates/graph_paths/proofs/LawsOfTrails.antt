-- In a forest there is at most one trail between two places that goes over no edge twice. Laws that have no code, and proofs of every
-- crate may cite them.
use Rattle.std.proofs.Common.{◌≡◌, ◌≢◌, ◌⊎◌, inl, inr, List, [], ◌∷◌, refl, sym, ap, ◌∙◌, subst}
use Rattle.graph_paths.specs.Paths.{Path, here, over, IsUndirected}
use Rattle.graph_paths.specs.Forests.{HasNoCycle, IsAmong, StandOnce, Trail, IsDirection}
use Rattle.graph_paths.proofs.LawsOfPaths.{Path-append, Path-turned, Path-wider}

-- where an edge is met first: a path over other edges of a list to one of its ends
pub record Met {E B : Type 0} (joins : E → B → B → Type 0) (edges : List E) (edge : E) (one : B) : Type 0 where
  pub from : B
  pub to : B
  pub ends : joins edge from to
  pub path : Path joins (λ other. IsAmong edges other × (other ≢ edge)) one from

-- whether an edge is one of a list
pub IsAmong-decides : {E : Type 0} (same : (one two : E) → (one ≡ two) ⊎ (one ≢ two)) (edges : List E) (edge : E) → IsAmong edges edge ⊎ (IsAmong edges edge → ⊥)
IsAmong-decides same [] edge = inr (λ is. is)
IsAmong-decides same (first ∷ rest) edge = elim (same edge first) [
  | inl equal ↦ inl (inl equal)
  | inr other ↦ elim (IsAmong-decides same rest edge) [
    | inl among ↦ inl (inr among)
    | inr apart ↦ inr (λ is. elim is [ inl equal ↦ other equal | inr among ↦ apart among ])
  ]
]

module _ {E B : Type 0} {joins : E → B → B → Type 0} where
  -- a trail is a path over its edges
  pub Trail-Path : (edges : List E) (one two : B) → Trail joins edges one two → Path joins (IsAmong edges) one two
  Trail-Path [] one two trail = subst (Path joins (IsAmong []) one) trail here
  Trail-Path (edge ∷ rest) one two trail = over edge (inl refl) trail.1 (Path-wider (λ e is. inr is) (Trail-Path rest trail.0 two trail.2))

  pub Trail-met : (same : (one two : E) → (one ≡ two) ⊎ (one ≢ two)) (edges : List E) (edge : E) (one two : B) → IsAmong edges edge → Trail joins edges one two → Met joins edges edge one
  Trail-met same [] edge one two is trail = absurd is
  Trail-met same (first ∷ rest) edge one two is trail = elim (same first edge) [
    | inl equal ↦ record { from = one; to = trail.0; ends = subst (λ (e : E). joins e one trail.0) equal trail.1; path = here }
    | inr other ↦ further other (Trail-met same rest edge trail.0 two (behind other is) trail.2)
  ]
    where
      behind : first ≢ edge → (edge ≡ first) ⊎ IsAmong rest edge → IsAmong rest edge
      behind other (inl equal) = absurd (other (sym equal))
      behind other (inr among) = among

      further : first ≢ edge → Met joins rest edge trail.0 → Met joins (first ∷ rest) edge one
      further other met = record {
        from = met.from;
        to = met.to;
        ends = met.ends;
        path = over first (inl refl, other) trail.1 (Path-wider (λ e both. (inr both.0, both.1)) met.path);
      }

module _ {E B : Type 0} {joins : E → B → B → Type 0} (undirected : IsUndirected joins) (same : (one two : E) → (one ≡ two) ⊎ (one ≢ two)) (set : E → Type 0) (forest : HasNoCycle joins set) where
  apart : (edges : List E) (edge : E) → ((e : E) → IsAmong edges e → set e) → (IsAmong edges edge → ⊥) → (other : E) → IsAmong edges other → set other × (other ≢ edge)
  apart edges edge within absent other is = (within other is, λ equal. absent (subst (IsAmong edges) equal is))

  -- no edge and trail lead back to where they began
  pub none_closed : (edge : E) (rest : List E) (one mid : B) → set edge → joins edge one mid → ((e : E) → IsAmong rest e → set e) → (IsAmong rest edge → ⊥) → Path joins (IsAmong rest) mid one → ⊥
  none_closed edge rest one mid is joined within absent back = forest edge is (record {
    from = one;
    to = mid;
    ends = joined;
    path = Path-turned undirected (Path-wider (apart rest edge within absent) back);
  })

  -- two trails that begin with different edges don't end at the same place
  split : (edge first : E) (mine theirs : List E) (one two mid other : B) → set edge → set first → ((e : E) → IsAmong mine e → set e) → ((e : E) → IsAmong theirs e → set e)
      → (IsAmong mine edge → ⊥) → (IsAmong theirs first → ⊥) → edge ≢ first → joins edge one mid → joins first one other → Trail joins mine mid two → Trail joins theirs other two → ⊥
  split edge first mine theirs one two mid other is is_first within within_theirs absent absent_first differ joined joined_first trail trail_theirs = elim (IsAmong-decides same theirs edge) [
    | inr apart_edge ↦ forest edge is (record {
      from = one;
      to = mid;
      ends = joined;
      path = over first (is_first, λ equal. differ (sym equal)) joined_first
          (Path-append (Path-wider (apart theirs edge within_theirs apart_edge) (Trail-Path theirs other two trail_theirs))
          (Path-turned undirected (Path-wider (apart mine edge within absent) (Trail-Path mine mid two trail))));
    })
    | inl among ↦ by_met (Trail-met same theirs edge other two among trail_theirs)
  ]
    where
      by_met : Met joins theirs edge other → ⊥
      by_met met = elim (undirected.ends edge one mid met.from met.to joined met.ends) [
        | inl equal ↦ none_closed first theirs one other is_first joined_first within_theirs absent_first
            (subst (Path joins (IsAmong theirs) other) (sym equal.0) (Path-wider (λ e both. both.0) met.path))
        | inr turned ↦ forest edge is (record {
          from = one;
          to = mid;
          ends = joined;
          path = over first (is_first, λ equal. differ (sym equal)) joined_first
              (subst (Path joins (λ e. set e × (e ≢ edge)) other) (sym turned.1) (Path-wider (λ e both. (within_theirs e both.0, both.1)) met.path));
        })
      ]

  -- where two trails begin with the same edge, they go on from the same place
  same_mid : (edge first : E) (one mid other : B) → edge ≡ first → joins edge one mid → joins first one other → other ≡ mid
  same_mid edge first one mid other equal joined joined_first =
      elim (undirected.ends edge one mid one other joined (subst (λ (e : E). joins e one other) (sym equal) joined_first)) [
        | inl ends ↦ sym ends.1
        | inr ends ↦ sym ends.0 ∙ sym ends.1
      ]

  -- In a forest two trails between the same places, neither of which goes over an edge twice, are the same.
  pub Trail-once : (mine theirs : List E) (one two : B) → ((e : E) → IsAmong mine e → set e) → ((e : E) → IsAmong theirs e → set e) → StandOnce mine → StandOnce theirs
      → Trail joins mine one two → Trail joins theirs one two → mine ≡ theirs
  Trail-once [] [] one two within within_theirs once once_theirs trail trail_theirs = refl
  Trail-once [] (first ∷ theirs) one two within within_theirs once once_theirs trail trail_theirs =
      absurd (none_closed first theirs one trail_theirs.0 (within_theirs first (inl refl)) trail_theirs.1 (λ e among. within_theirs e (inr among)) once_theirs.0
      (subst (Path joins (IsAmong theirs) trail_theirs.0) (sym trail) (Trail-Path theirs trail_theirs.0 two trail_theirs.2)))
  Trail-once (edge ∷ mine) [] one two within within_theirs once once_theirs trail trail_theirs =
      absurd (none_closed edge mine one trail.0 (within edge (inl refl)) trail.1 (λ e among. within e (inr among)) once.0
      (subst (Path joins (IsAmong mine) trail.0) (sym trail_theirs) (Trail-Path mine trail.0 two trail.2)))
  Trail-once (edge ∷ mine) (first ∷ theirs) one two within within_theirs once once_theirs trail trail_theirs = elim (same edge first) [
    | inr differ ↦ absurd (split edge first mine theirs one two trail.0 trail_theirs.0 (within edge (inl refl)) (within_theirs first (inl refl))
        (λ e among. within e (inr among)) (λ e among. within_theirs e (inr among)) once.0 once_theirs.0 differ trail.1 trail_theirs.1 trail.2 trail_theirs.2)
    | inl equal ↦
        let rest = subst (λ (place : B). Trail joins theirs place two) (same_mid edge first one trail.0 trail_theirs.0 equal trail.1 trail_theirs.1) trail_theirs.2 in
        let behind = Trail-once mine theirs trail.0 two (λ e among. within e (inr among)) (λ e among. within_theirs e (inr among)) once.1 once_theirs.1 trail.2 rest in
        ap (λ (e : E). e ∷ mine) equal ∙ ap (λ (l : List E). first ∷ l) behind
  ]

module _ {E B : Type 0} {joins : E → B → B → Type 0} (undirected : IsUndirected joins) (same : (one two : E) → (one ≡ two) ⊎ (one ≢ two)) (set : E → Type 0) (forest : HasNoCycle joins set) where
  -- the first edge of a trail is among any edges of the forest that join the trail's ends
  first_within : (first : E) (rest others : List E) (one mid two : B) → set first → joins first one mid → ((e : E) → IsAmong rest e → set e) → ((e : E) → IsAmong others e → set e)
      → (IsAmong rest first → ⊥) → Trail joins rest mid two → Path joins (IsAmong others) one two → IsAmong others first
  first_within first rest others one mid two is joined within within_others absent trail path = elim (IsAmong-decides same others first) [
    | inl there ↦ there
    | inr nowhere ↦ absurd (forest first is (record {
      from = one;
      to = mid;
      ends = joined;
      path = Path-append (Path-wider (apart undirected same set forest others first within_others nowhere) path)
          (Path-turned undirected (Path-wider (apart undirected same set forest rest first within absent) (Trail-Path rest mid two trail)));
    }))
  ]

  -- In a forest a trail that goes over no edge twice stays within any edges that join its ends.
  pub Trail-within : (edges others : List E) (one two : B) → ((e : E) → IsAmong edges e → set e) → ((e : E) → IsAmong others e → set e) → StandOnce edges
      → Trail joins edges one two → Path joins (IsAmong others) one two → (edge : E) → IsAmong edges edge → IsAmong others edge
  Trail-within [] others one two within within_others once trail path edge is = absurd is
  Trail-within (first ∷ rest) others one two within within_others once trail path edge is =
      let there = first_within first rest others one trail.0 two (within first (inl refl)) trail.1 (λ e among. within e (inr among)) within_others once.0 trail.2 path in
      let on = over first there (undirected.turned first one trail.0 trail.1) path in
      elim is [
        | inl equal ↦ subst (IsAmong others) (sym equal) there
        | inr behind ↦ Trail-within rest others trail.0 two (λ e among. within e (inr among)) within_others once.1 trail.2 on edge behind
      ]

-- a trail up to where an edge is met first
pub record UpTo {E B : Type 0} (leads : E → B → B → Type 0) (edges : List E) (edge : E) (one : B) : Type 0 where
  pub front : List E
  pub from : B
  pub to : B
  pub led : leads edge from to
  pub trail : Trail leads front one from
  pub absent : IsAmong front edge → ⊥
  pub among : (other : E) → IsAmong front other → IsAmong edges other

module _ {E B : Type 0} {joins leads : E → B → B → Type 0} (direction : IsDirection joins leads) where
  -- a trail along directions joins the same places
  pub Trail-joins : (edges : List E) (one two : B) → Trail leads edges one two → Trail joins edges one two
  Trail-joins [] one two trail = trail
  Trail-joins (edge ∷ rest) one two trail = (trail.0, direction.joined edge one trail.0 trail.1, Trail-joins rest trail.0 two trail.2)

module _ {E B : Type 0} {leads : E → B → B → Type 0} (same : (one two : E) → (one ≡ two) ⊎ (one ≢ two)) where
  up_to_later : (first : E) (rest : List E) (edge : E) (one mid : B) → leads first one mid → first ≢ edge → UpTo leads rest edge mid → UpTo leads (first ∷ rest) edge one
  up_to_later first rest edge one mid led other up_to = record {
    front = first ∷ up_to.front;
    from = up_to.from;
    to = up_to.to;
    led = up_to.led;
    trail = (mid, led, up_to.trail);
    absent = λ is. elim is [ inl equal ↦ other (sym equal) | inr there ↦ up_to.absent there ];
    among = λ e is. elim is [ inl equal ↦ inl equal | inr there ↦ inr (up_to.among e there) ];
  }

  pub Trail-up_to : (edges : List E) (edge : E) (one two : B) → IsAmong edges edge → Trail leads edges one two → UpTo leads edges edge one
  Trail-up_to [] edge one two is trail = absurd is
  Trail-up_to (first ∷ rest) edge one two is trail = elim (same first edge) [
    | inl equal ↦ record {
      front = [];
      from = one;
      to = trail.0;
      led = subst (λ (e : E). leads e one trail.0) equal trail.1;
      trail = refl;
      absent = λ nowhere. nowhere;
      among = λ e nowhere. absurd nowhere;
    }
    | inr other ↦ up_to_later first rest edge one trail.0 trail.1 other (Trail-up_to rest edge trail.0 two (behind other is) trail.2)
  ]
    where
      behind : first ≢ edge → (edge ≡ first) ⊎ IsAmong rest edge → IsAmong rest edge
      behind other (inl equal) = absurd (other (sym equal))
      behind other (inr among) = among

module _ {E B : Type 0} {joins leads : E → B → B → Type 0} (undirected : IsUndirected joins) (direction : IsDirection joins leads) (same : (one two : E) → (one ≡ two) ⊎ (one ≢ two)) (set : E → Type 0) (forest : HasNoCycle joins set) where
  -- In a forest a trail along directions goes over no edge twice,
  pub Trail-StandOnce : (edges : List E) (one two : B) → ((e : E) → IsAmong edges e → set e) → Trail leads edges one two → StandOnce edges
  Trail-StandOnce [] one two within trail = tt
  Trail-StandOnce (edge ∷ rest) one two within trail = (
    λ among.
        let up_to = Trail-up_to same rest edge trail.0 two among trail.2 in
        let back = Trail-Path up_to.front trail.0 up_to.from (Trail-joins direction up_to.front trail.0 up_to.from up_to.trail) in
        let ends = direction.one_way edge one trail.0 up_to.from up_to.to trail.1 up_to.led in
        none_closed undirected same set forest edge up_to.front one trail.0 (within edge (inl refl)) (direction.joined edge one trail.0 trail.1)
        (λ e is. within e (inr (up_to.among e is))) up_to.absent (subst (Path joins (IsAmong up_to.front) trail.0) (sym ends.0) back),
    Trail-StandOnce rest trail.0 two (λ e is. within e (inr is)) trail.2,
  )

  -- and so there is at most one between two places.
  pub Trail-only : (mine theirs : List E) (one two : B) → ((e : E) → IsAmong mine e → set e) → ((e : E) → IsAmong theirs e → set e)
      → Trail leads mine one two → Trail leads theirs one two → mine ≡ theirs
  Trail-only mine theirs one two within within_theirs trail trail_theirs =
      Trail-once undirected same set forest mine theirs one two within within_theirs (Trail-StandOnce mine one two within trail) (Trail-StandOnce theirs one two within_theirs trail_theirs)
      (Trail-joins direction mine one two trail) (Trail-joins direction theirs one two trail_theirs)

-- a trail over edges of a set that goes over none twice
pub record Simple {E B : Type 0} (joins : E → B → B → Type 0) (set : E → Type 0) (one two : B) : Type 0 where
  pub edges : List E
  pub trail : Trail joins edges one two
  pub once : StandOnce edges
  pub within : (edge : E) → IsAmong edges edge → set edge

-- what comes of a trail from one of its edges on
record Onward {E B : Type 0} (joins : E → B → B → Type 0) (edges : List E) (edge : E) (two : B) : Type 0 where
  rest : List E
  from : B
  to : B
  joined : joins edge from to
  trail : Trail joins rest to two
  once : StandOnce (edge ∷ rest)
  among : (other : E) → IsAmong rest other → IsAmong edges other

module _ {E B : Type 0} {joins : E → B → B → Type 0} where
  onward : (edges : List E) (edge : E) (one two : B) → IsAmong edges edge → StandOnce edges → Trail joins edges one two → Onward joins edges edge two
  onward [] edge one two is once trail = absurd is
  onward (first ∷ rest) edge one two (inl equal) once trail = record {
    rest = rest;
    from = one;
    to = trail.0;
    joined = subst (λ (e : E). joins e one trail.0) (sym equal) trail.1;
    trail = trail.2;
    once = subst (λ (e : E). StandOnce (e ∷ rest)) (sym equal) once;
    among = λ other is. inr is;
  }
  onward (first ∷ rest) edge one two (inr behind) once trail = later (onward rest edge trail.0 two behind once.1 trail.2)
    where
      later : Onward joins rest edge two → Onward joins (first ∷ rest) edge two
      later on = record {
        rest = on.rest;
        from = on.from;
        to = on.to;
        joined = on.joined;
        trail = on.trail;
        once = on.once;
        among = λ other is. inr (on.among other is);
      }

module _ {E B : Type 0} {joins : E → B → B → Type 0} (undirected : IsUndirected joins) (same : (one two : E) → (one ≡ two) ⊎ (one ≢ two)) {set : E → Type 0} where
  -- an edge, and then a trail that may go over it again
  edge_on : (edge : E) (one mid two : B) → set edge → joins edge one mid → Simple joins set mid two → Simple joins set one two
  edge_on edge one mid two is joined simple = elim (IsAmong-decides same simple.edges edge) [
    | inr absent ↦ record {
      edges = edge ∷ simple.edges;
      trail = (mid, joined, simple.trail);
      once = (absent, simple.once);
      within = λ other among. elim among [ inl equal ↦ subst set (sym equal) is | inr behind ↦ simple.within other behind ];
    }
    | inl again ↦ from_there (onward simple.edges edge mid two again simple.once simple.trail)
  ]
    where
      from_there : Onward joins simple.edges edge two → Simple joins set one two
      from_there on = elim (undirected.ends edge one mid on.from on.to joined on.joined) [
        | inl ends ↦ record {
          edges = edge ∷ on.rest;
          trail = (on.to, subst (λ (place : B). joins edge place on.to) (sym ends.0) on.joined, on.trail);
          once = on.once;
          within = λ other among. elim among [ inl equal ↦ subst set (sym equal) is | inr behind ↦ simple.within other (on.among other behind) ];
        }
        | inr turned ↦ record {
          edges = on.rest;
          trail = subst (λ (place : B). Trail joins on.rest place two) (sym turned.0) on.trail;
          once = on.once.1;
          within = λ other among. simple.within other (on.among other among);
        }
      ]

  -- where a path leads, there leads one that goes over no edge twice
  pub Path-Simple : {one two : B} → Path joins set one two → Simple joins set one two
  Path-Simple here = record { edges = []; trail = refl; once = tt; within = λ edge is. absurd is }
  Path-Simple {two = two} (over {from} {mid} edge is joined rest) = edge_on edge from mid two is joined (Path-Simple rest)

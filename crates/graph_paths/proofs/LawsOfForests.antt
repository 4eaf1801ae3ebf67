-- Laws of sets and lists of edges without a cycle, and of the edges that are kept. They have no code, and proofs of every crate may cite
-- them.
use Rattle.std.proofs.Common.{◌≡◌, ◌≢◌, ◌⊎◌, inl, inr, refl, List, [], ◌∷◌, sym, ◌∙◌, subst, ◌++◌}
use Rattle.graph_paths.specs.Paths.{Path, Closes, IsUndirected}
use Rattle.graph_paths.specs.Forests.{HasNoCycle, IsAmong, ClosesNone, StandOnce, Retains, none, dropped, chosen}
use Rattle.graph_paths.proofs.LawsOfPaths.{Path-edge, Path-instead, Path-wider, Closes-wider, Through-wider, Path-through, Closes-path, Closes-exchanged}

module _ {E B : Type 0} {joins : E → B → B → Type 0} where
  -- a set within one that has no cycle has none
  pub HasNoCycle-within : {set more : E → Type 0} → ((edge : E) → set edge → more edge) → HasNoCycle joins more → HasNoCycle joins set
  HasNoCycle-within within no_cycle edge is closes =
      no_cycle edge (within edge is) (Closes-wider (λ other both. (within other both.0, both.1)) edge closes)

  -- what is kept is of the list
  pub Retains-among : {list kept : List E} → Retains joins list kept → (edge : E) → IsAmong kept edge → IsAmong list edge
  Retains-among none edge is = is
  Retains-among (dropped closes keeps) edge is = inr (Retains-among keeps edge is)
  Retains-among (chosen free keeps) edge (inl is) = inl is
  Retains-among (chosen free keeps) edge (inr is) = inr (Retains-among keeps edge is)

  -- no kept edge closes over those behind it
  pub Retains-ClosesNone : {list kept : List E} → Retains joins list kept → ClosesNone joins kept
  Retains-ClosesNone none = tt
  Retains-ClosesNone (dropped closes keeps) = Retains-ClosesNone keeps
  Retains-ClosesNone (chosen {edge} free keeps) = (λ closes. free (Closes-wider (Retains-among keeps) edge closes), Retains-ClosesNone keeps)

-- How an edge stands in a list of which some are kept, with these edges behind it.
pub record KeptAt {E B : Type 0} (joins : E → B → B → Type 0) (rest kept : List E) (edge : E) : Type 0 where
  -- the kept edges behind it, which are those that are kept of the edges behind it
  pub behind : List E
  pub keeps : Retains joins rest behind
  pub among : (other : E) → IsAmong behind other → IsAmong kept other
  pub either : (IsAmong kept edge × (Closes joins (IsAmong rest) edge → ⊥)) ⊎ Closes joins (IsAmong behind) edge

module _ {E B : Type 0} {joins : E → B → B → Type 0} (undirected : IsUndirected joins) where
  -- the kept edges join whatever the list joins
  pub Retains-spans : {list kept : List E} → Retains joins list kept → (one two : B) → Path joins (IsAmong list) one two → Path joins (IsAmong kept) one two
  Retains-spans none one two path = path
  Retains-spans (dropped {edge} {rest} closes keeps) one two path = Retains-spans keeps one two (Path-instead without path)
    where
      without : (other : E) (from to : B) → IsAmong (edge ∷ rest) other → joins other from to → Path joins (IsAmong rest) from to
      without other from to (inl is) joined = Closes-path undirected edge from to (subst (λ (e : E). joins e from to) is joined) closes
      without other from to (inr is) joined = Path-edge other from to is joined
  Retains-spans (chosen {edge} {rest} {kept} free keeps) one two path = Path-instead (by_kept (Retains-spans keeps)) path
    where
      by_kept : ((from to : B) → Path joins (IsAmong rest) from to → Path joins (IsAmong kept) from to) → (other : E) (from to : B) → IsAmong (edge ∷ rest) other → joins other from to → Path joins (IsAmong (edge ∷ kept)) from to
      by_kept spans other from to (inl is) joined = Path-edge other from to (inl is) joined
      by_kept spans other from to (inr is) joined = Path-wider (λ e among. inr among) (spans from to (Path-edge other from to is joined))

  -- a list in which no edge closes over those behind it has no cycle
  pub ClosesNone-HasNoCycle : (list : List E) → ClosesNone joins list → HasNoCycle joins (IsAmong list)
  ClosesNone-HasNoCycle [] closes_none edge is closes = is
  ClosesNone-HasNoCycle (first ∷ rest) closes_none edge (inl is) closes = closes_none.0 (subst (Closes joins (IsAmong rest)) is (Closes-wider others edge closes))
    where
      others : (other : E) → IsAmong (first ∷ rest) other × (other ≢ edge) → IsAmong rest other
      others other both = elim both.0 [ inl same ↦ absurd (both.1 (same ∙ sym is)) | inr behind ↦ behind ]
  ClosesNone-HasNoCycle (first ∷ rest) closes_none edge (inr is) closes = elim (Path-through undirected first (Path-wider apart closes.path)) [
    | inl path ↦
        ClosesNone-HasNoCycle rest closes_none.1 edge is (record { from = closes.from; to = closes.to; ends = closes.ends; path = path })
    | inr through ↦
        closes_none.0 (Closes-exchanged undirected first edge closes.from closes.to is closes.ends (Through-wider (λ other both. both.0) through))
  ]
    where
      apart : (other : E) → IsAmong (first ∷ rest) other × (other ≢ edge) → (other ≡ first) ⊎ (IsAmong rest other × (other ≢ edge))
      apart other both = elim both.0 [ inl same ↦ inl same | inr behind ↦ inr (behind, both.1) ]

  -- and a list without a cycle, in which no edge stands twice, is such a list
  pub HasNoCycle-ClosesNone : (list : List E) → StandOnce list → HasNoCycle joins (IsAmong list) → ClosesNone joins list
  HasNoCycle-ClosesNone [] once no_cycle = tt
  HasNoCycle-ClosesNone (first ∷ rest) once no_cycle = (
    λ closes. no_cycle first (inl refl) (Closes-wider others first closes),
    HasNoCycle-ClosesNone rest once.1 (HasNoCycle-within (λ edge is. inr is) no_cycle),
  )
    where
      others : (other : E) → IsAmong rest other → IsAmong (first ∷ rest) other × (other ≢ first)
      others other is = (inr is, λ same. once.0 (subst (IsAmong rest) same is))

  -- a forest in one order is one in any order
  pub ClosesNone-reordered : (list other : List E) → ((edge : E) → IsAmong other edge → IsAmong list edge) → StandOnce other → ClosesNone joins list → ClosesNone joins other
  ClosesNone-reordered list other within once closes_none =
      HasNoCycle-ClosesNone other once (HasNoCycle-within within (ClosesNone-HasNoCycle list closes_none))

  -- Each edge of a list is kept, and doesn't close over those behind it, or it closes over kept edges that stand behind it.
  pub Retains-each : (front rest : List E) (edge : E) (kept : List E) → Retains joins (front ++ (edge ∷ rest)) kept → KeptAt joins rest kept edge
  Retains-each [] rest edge kept (dropped closes keeps) = record {
    behind = kept;
    keeps = keeps;
    among = λ e is. is;
    either = inr (record { from = closes.from; to = closes.to; ends = closes.ends; path = Retains-spans keeps closes.from closes.to closes.path });
  }
  Retains-each [] rest edge kept (chosen {kept = others} free keeps) = record {
    behind = others;
    keeps = keeps;
    among = λ e is. inr is;
    either = inl (inl refl, free);
  }
  Retains-each (first ∷ front) rest edge kept (dropped closes keeps) = Retains-each front rest edge kept keeps
  Retains-each (first ∷ front) rest edge kept (chosen {kept = others} free keeps) =
      let each = Retains-each front rest edge others keeps in
      record {
        behind = each.behind;
        keeps = each.keeps;
        among = λ e is. inr (each.among e is);
        either = elim each.either [ inl is ↦ inl (inr is.0, is.1) | inr closes ↦ inr closes ];
      }

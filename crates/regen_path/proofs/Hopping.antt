-- The first arc of the only directed walk.
use Rattle.std.proofs.Common.{◌≡◌, ◌≢◌, inl, inr, ℕ, zero, suc, ◌<◌, Bool, true, false, cond, eqb, List, [], ◌∷◌, length, Option, Some, None, refl, sym, ap, ◌∙◌, subst, arith}
use Rattle.std.specs.Prelude.{slice_get, ◌↔◌}
use Rattle.std.specs.Option.{option_and_then, option_map}
use Rattle.std.proofs.lemmas.Bool.{eq-eqb, ne_eqb}
use Rattle.std.proofs.lemmas.Option.{none-some, same_Some, slice_get-map}
use Rattle.std.proofs.lemmas.List.{length-map}
use Rattle.graph_paths.specs.Paths.{Path, here, over}
use Rattle.graph_paths.specs.Forests.{HasNoCycle, IsAmong, Trail}
use Rattle.graph_paths.proofs.LawsOfPaths.{Path-wider}
use Rattle.graph_paths.proofs.LawsOfTrails.{Trail-Path, Trail-only}
use Rattle.regen_path.specs.declared.arcs.Arc.{Arc}
use Rattle.regen_path.specs.declared.arcs.Ways.{Ways}
use Rattle.regen_path.specs.declared.paths.Hop.{Hop}
use Rattle.regen_path.specs.declared.paths.Hop.TheVariants.{Fall, Taken, Here, NoWay}
use Rattle.regen_path.specs.declared.paths.Spot.{Spot}
use Rattle.regen_path.specs.Arcs.{way_by, way_from, HasArc}
use Rattle.regen_path.specs.Walks.{ArcLeads, ArcJoins, IsWalk, IsOnlyWalk}
use Rattle.regen_path.specs.Hops.{first_hop}
use Rattle.regen_path.specs.PathsView.{ways_in, RisesAndSinks, AreSpots}
use Rattle.regen_path.specs.Inner.Finds.{Finds, at_goal, by_fall, by_taken, nowhere}
use Rattle.regen_path.proofs.LawsOfArcs.{arcs_undirected, arcs_direct, same_arc, kind_below}

-- where a path leads, there leads a walk, and the other way round
path_walk : {set : Arc → Type 0} {from to : ℕ} → Path ArcLeads set from to → (walk : List Arc) × IsWalk set from to walk
path_walk here = ([], record { within = λ arc is. absurd is; trail = refl })
path_walk {set} (over {from} {mid} arc is leads rest) =
    let (walk, walks) = path_walk rest in (
      arc ∷ walk,
      record {
        within = λ other among. elim among [ inl equal ↦ subst set (sym equal) is | inr behind ↦ walks.within other behind ];
        trail = (mid, leads, walks.trail);
      },
    )

walk_path : {set : Arc → Type 0} (from to : ℕ) (walk : List Arc) → ((arc : Arc) → IsAmong walk arc → set arc) → Trail ArcLeads walk from to → Path ArcLeads set from to
walk_path from to walk within trail = Path-wider within (Trail-Path walk from to trail)

module _ (table : List Ways) (forest : HasNoCycle ArcJoins (HasArc table)) (from goal : ℕ) where
  only_walk : (mine theirs : List Arc) → IsWalk (HasArc table) from goal mine → IsWalk (HasArc table) from goal theirs → mine ≡ theirs
  only_walk mine theirs walks walks_too =
      Trail-only arcs_undirected arcs_direct same_arc (HasArc table) forest mine theirs from goal walks.within walks_too.within walks.trail walks_too.trail

  pub is_only : (walk : List Arc) → IsWalk (HasArc table) from goal walk → IsOnlyWalk (HasArc table) from goal walk
  is_only walk walks = record { is = walks; only = λ other walks_too. only_walk other walk walks_too walks }

  -- a walk by the arc of a kind
  by_kind : (kind to : ℕ) → way_from table kind from ≡ Some to → Path ArcLeads (HasArc table) to goal → (arc : Arc) (rest : List Arc) → IsWalk (HasArc table) from goal (arc ∷ rest) → arc.kind ≡ kind
  by_kind kind to is path arc rest walks =
      let (more, walks_on) = path_walk path in
      let first : Arc = record { from = from; to = to; kind = kind } in
      let ours : IsWalk (HasArc table) from goal (first ∷ more) = record {
        within = λ other among. elim among [ inl equal ↦ subst (HasArc table) (sym equal) is | inr behind ↦ walks_on.within other behind ];
        trail = (to, (refl, refl), walks_on.trail);
      } in
      let equal = only_walk (arc ∷ rest) (first ∷ more) walks ours in
      let same_first : arc ≡ first = cc in
      ap (λ (a : Arc). a.kind) same_first

  empty_walk : from ≡ goal → IsWalk (HasArc table) from goal []
  empty_walk equal = record { within = λ arc is. absurd is; trail = equal }

  pub finds_first : (hop : Hop) → Finds table from goal hop → (walk : List Arc) → IsWalk (HasArc table) from goal walk → hop ≡ first_hop walk
  finds_first Here (at_goal equal) [] walks = refl
  finds_first Here (at_goal equal) (arc ∷ rest) walks = absurd (let clash = only_walk (arc ∷ rest) [] walks (empty_walk equal) in cc)
  finds_first Fall (by_fall apart to is path) [] walks = absurd (apart walks.trail)
  finds_first Fall (by_fall apart to is path) (arc ∷ rest) walks = ap (λ b. cond b Fall Taken) (sym (eq-eqb arc.kind 0 (by_kind 0 to is path arc rest walks)))
  finds_first Taken (by_taken apart to is path) [] walks = absurd (apart walks.trail)
  finds_first Taken (by_taken apart to is path) (arc ∷ rest) walks =
      let one = by_kind 1 to is path arc rest walks in ap (λ b. cond b Fall Taken) (sym (ne_eqb arc.kind 0 (λ none. absurd (omega arith))))
  finds_first NoWay (nowhere apart none) [] walks = absurd (apart walks.trail)
  finds_first NoWay (nowhere apart none) (arc ∷ rest) walks =
      let (mid, leads, trail) = walks.trail in
      let has : HasArc table arc = walks.within arc (inl refl) in
      let way : way_from table arc.kind from ≡ Some mid = ap (way_from table arc.kind) (sym leads.0) ∙ has ∙ ap (λ (n : ℕ). Some n) leads.1 in
      absurd (none arc.kind mid (kind_below table arc.kind from mid way) way (walk_path mid goal rest (λ other among. walks.within other (inr among)) trail))

  pub finds_here : (hop : Hop) → Finds table from goal hop → hop ≡ Here ↔ from ≡ goal
  finds_here Here (at_goal equal) = (λ is. equal, λ is. refl)
  finds_here Fall (by_fall apart to is path) = (λ clash. absurd (cc clash), λ equal. absurd (apart equal))
  finds_here Taken (by_taken apart to is path) = (λ clash. absurd (cc clash), λ equal. absurd (apart equal))
  finds_here NoWay (nowhere apart none) = (λ clash. absurd (cc clash), λ equal. absurd (apart equal))

  walk_by : (kind to : ℕ) → way_from table kind from ≡ Some to → Path ArcLeads (HasArc table) to goal → ((walk : List Arc) → IsWalk (HasArc table) from goal walk → ⊥) → ⊥
  walk_by kind to is path none =
      let arc : Arc = record { from = from; to = to; kind = kind } in
      let (walk, walks) = path_walk (over {mid = to} arc is (refl, refl) path) in
      none walk walks

  -- but where there is no way, a walk leads there
  pub finds_walk : (hop : Hop) → Finds table from goal hop → hop ≢ NoWay → (walk : List Arc) × IsWalk (HasArc table) from goal walk
  finds_walk Here (at_goal equal) some = ([], empty_walk equal)
  finds_walk Fall (by_fall apart to is path) some = path_walk (over {mid = to} (record { from = from; to = to; kind = 0 }) is (refl, refl) path)
  finds_walk Taken (by_taken apart to is path) some = path_walk (over {mid = to} (record { from = from; to = to; kind = 1 }) is (refl, refl) path)
  finds_walk NoWay (nowhere apart none) some = absurd (some refl)

  -- the arc of a kind from whose end a walk leads on, and the rest of that walk
  walk_with : (kind to : ℕ) → way_from table kind from ≡ Some to → Path ArcLeads (HasArc table) to goal
      → (rest : List Arc) × IsOnlyWalk (HasArc table) from goal (record { from = from; to = to; kind = kind } ∷ rest)
  walk_with kind to is path =
      let (rest, walks) = path_walk path in
      let first : Arc = record { from = from; to = to; kind = kind } in (
        rest,
        is_only (first ∷ rest)
            (record {
              within = λ other among. elim among [ inl equal ↦ subst (HasArc table) (sym equal) is | inr behind ↦ walks.within other behind ];
              trail = (to, (refl, refl), walks.trail);
            }),
      )

  pub first_fall : (to : ℕ) → way_from table 0 from ≡ Some to → Finds table from goal Fall → (rest : List Arc) × IsOnlyWalk (HasArc table) from goal (record { from = from; to = to; kind = 0 } ∷ rest)
  first_fall to way (by_fall apart next is path) =
      let equal : next ≡ to = same_Some next to (sym is ∙ way) in
      walk_with 0 to way (subst (λ (n : ℕ). Path ArcLeads (HasArc table) n goal) equal path)

  pub first_taken : (to : ℕ) → way_from table 1 from ≡ Some to → Finds table from goal Taken → (rest : List Arc) × IsOnlyWalk (HasArc table) from goal (record { from = from; to = to; kind = 1 } ∷ rest)
  first_taken to way (by_taken apart next is path) =
      let equal : next ≡ to = same_Some next to (sym is ∙ way) in
      walk_with 1 to way (subst (λ (n : ℕ). Path ArcLeads (HasArc table) n goal) equal path)

  no_way_walk : (walk : List Arc) → NoWay ≡ first_hop walk → ⊥
  no_way_walk [] clash = cc clash
  no_way_walk (arc ∷ rest) clash = fall_or_taken (eqb arc.kind 0) clash
    where
      fall_or_taken : (b : Bool) → NoWay ≡ cond b Fall Taken → ⊥
      fall_or_taken true clash = cc clash
      fall_or_taken false clash = cc clash

  pub finds_no_way : (hop : Hop) → Finds table from goal hop → hop ≡ NoWay ↔ ((walk : List Arc) → IsWalk (HasArc table) from goal walk → ⊥)
  finds_no_way hop finds = (λ is walk walks. no_way_walk walk (sym is ∙ finds_first hop finds walk walks), back hop finds)
    where
      back : (hop : Hop) → Finds table from goal hop → ((walk : List Arc) → IsWalk (HasArc table) from goal walk → ⊥) → hop ≡ NoWay
      back Here (at_goal equal) none = absurd (none [] (empty_walk equal))
      back Fall (by_fall apart to is path) none = absurd (walk_by 0 to is path none)
      back Taken (by_taken apart to is path) none = absurd (walk_by 1 to is path none)
      back NoWay (nowhere apart nothing) none = refl

-- the arcs out of a spot
pub way_at : (spots : List Spot) (kind node : ℕ) (spot : Spot) → slice_get spots node ≡ Some spot → way_from (ways_in spots) kind node ≡ way_by spot.ways kind
way_at spots kind node spot is =
    ap (option_and_then (λ (ways : Ways). way_by ways kind)) (slice_get-map (λ (s : Spot). s.ways) spots node ∙ ap (option_map (λ (s : Spot). s.ways)) is)

-- what is found in a slice of spots, as callers see them
pub found_in : (view : List Ways) (spots slice : List Spot) → slice ≡ spots → ways_in spots ≡ view → (from goal : ℕ) (hop : Hop) → Finds (ways_in slice) from goal hop → Finds view from goal hop
found_in view spots slice slice_is view_is from goal hop finds = subst (λ (table : List Ways). Finds table from goal hop) (ap ways_in slice_is ∙ view_is) finds

pub forest_in : (view : List Ways) (spots : List Spot) → ways_in spots ≡ view → AreSpots spots → HasNoCycle ArcJoins (HasArc view)
forest_in view spots view_is are = subst (λ (table : List Ways). HasNoCycle ArcJoins (HasArc table)) view_is are.forest

pub spots_count : (view : List Ways) (spots : List Spot) → ways_in spots ≡ view → length spots ≡ length view
spots_count view spots view_is = sym (length-map spots (λ (s : Spot). s.ways)) ∙ ap length view_is

-- an arc out of a spot leads to a goal, or doesn't
pub leads_by : (spots : List Spot) → AreSpots spots → (to goal : ℕ) (one other : Spot) → slice_get spots to ≡ Some one → slice_get spots goal ≡ Some other → (way : Option ℕ) → way ≡ Some to
    → RisesAndSinks one other ↔ ((next : ℕ) × (way ≡ Some next) × Path ArcLeads (HasArc (ways_in spots)) next goal)
leads_by spots are to goal one other is is_goal way way_is = (
  λ reaches. (to, way_is, (are.reach to goal one other is is_goal).0 reaches),
  λ led.
      let equal : led.0 ≡ to = same_Some led.0 to (sym led.1 ∙ way_is) in
      (are.reach to goal one other is is_goal).1 (subst (λ (n : ℕ). Path ArcLeads (HasArc (ways_in spots)) n goal) equal led.2),
)

pub leads_nowhere : (spots : List Spot) (goal : ℕ) (way : Option ℕ) → way ≡ None → ((next : ℕ) × (way ≡ Some next) × Path ArcLeads (HasArc (ways_in spots)) next goal) → ⊥
leads_nowhere spots goal way none led = none-some led.0 (sym none ∙ led.1)

module _ (spots : List Spot) (from goal : ℕ) (spot : Spot) (is : slice_get spots from ≡ Some spot) (apart : from ≢ goal) where
  abbrev LeadsOn : Option ℕ → Type 0
  LeadsOn way = (to : ℕ) × (way ≡ Some to) × Path ArcLeads (HasArc (ways_in spots)) to goal

  pub finds_fall : LeadsOn spot.ways.fall → Finds (ways_in spots) from goal Fall
  finds_fall led = by_fall apart led.0 (way_at spots 0 from spot is ∙ led.1) led.2

  pub finds_taken : LeadsOn spot.ways.taken → Finds (ways_in spots) from goal Taken
  finds_taken led = by_taken apart led.0 (way_at spots 1 from spot is ∙ led.1) led.2

  pub finds_none : (LeadsOn spot.ways.fall → ⊥) → (LeadsOn spot.ways.taken → ⊥) → Finds (ways_in spots) from goal NoWay
  finds_none no_fall no_taken = nowhere apart by_kinds
    where
      by_kinds : (kind to : ℕ) → kind < 2 → way_from (ways_in spots) kind from ≡ Some to → Path ArcLeads (HasArc (ways_in spots)) to goal → ⊥
      by_kinds zero to less way path = no_fall (to, sym (way_at spots 0 from spot is) ∙ way, path)
      by_kinds (suc zero) to less way path = no_taken (to, sym (way_at spots 1 from spot is) ∙ way, path)
      by_kinds (suc (suc kind)) to less way path = absurd (omega arith)

abbrev pub no_spot : Spot
no_spot = record { ways = record { fall = None; taken = None }; number = 0; rise = record { first = 0; last = 0 }; sink = record { first = 0; last = 0 } }

-- the arcs of a spot lead within
pub leads_within : (spots : List Spot) → AreSpots spots → (kind node to : ℕ) (spot : Spot) → slice_get spots node ≡ Some spot → way_by spot.ways kind ≡ Some to → to < length spots
leads_within spots are kind node to spot is way =
    let within = are.within kind node to (way_at spots kind node spot is ∙ way) in
    omega (arith, length-map spots (λ (s : Spot). s.ways))

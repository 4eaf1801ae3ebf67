-- In a forest two walks between the same places are the same, and a walk has no more arcs than there are nodes.
use Rattle.std.proofs.Common.{◌≡◌, inl, inr, ℕ, ◌<◌, ◌≤◌, true, false, eqb, List, [], ◌∷◌, length, map, Option, Some, None, refl, sym, ap, subst, ◌∙◌, arith}
use Rattle.std.specs.Prelude.{◌||◌, slice_get}
use Rattle.std.specs.List.{AllByRecursion, IsDistinct, list_any}
use Rattle.std.specs.Option.{option_and_then}
use Rattle.std.proofs.lemmas.Bool.{cases_Bool, eqb-true, ne_eqb}
use Rattle.std.proofs.lemmas.List.{length-map}
use Rattle.std.proofs.lemmas.Map.Steps.{length-le_from_distinct_below}
use Rattle.std.proofs.lemmas.Option.{slice_get_within}
use Rattle.graph_paths.specs.Forests.{HasNoCycle, IsAmong, Trail}
use Rattle.graph_paths.proofs.LawsOfTrails.{Trail-only, Trail-up_to}
use Rattle.regen_path.specs.declared.arcs.Arc.{Arc}
use Rattle.regen_path.specs.declared.arcs.Ways.{Ways}
use Rattle.regen_path.specs.Arcs.{way_by, HasArc}
use Rattle.regen_path.specs.Walks.{ArcLeads, ArcJoins, IsWalk}
use Rattle.regen_path.proofs.LawsOfArcs.{arcs_undirected, arcs_direct, same_arc}

pub only_walk : (set : Arc → Type 0) → HasNoCycle ArcJoins set → (from to : ℕ) (mine theirs : List Arc) → IsWalk set from to mine → IsWalk set from to theirs → mine ≡ theirs
only_walk set forest from to mine theirs walks others = Trail-only arcs_undirected arcs_direct same_arc set forest mine theirs from to walks.within others.within walks.trail others.trail

module _ (table : List Ways) (forest : HasNoCycle ArcJoins (HasArc table)) where
  pub walks_same : (from to : ℕ) (mine theirs : List Arc) → IsWalk (HasArc table) from to mine → IsWalk (HasArc table) from to theirs → mine ≡ theirs
  walks_same from to mine theirs walks others = only_walk (HasArc table) forest from to mine theirs walks others

  -- behind an arc its source isn't met again
  apart : (arc : Arc) (rest : List Arc) (from to : ℕ) → ((a : Arc) → IsAmong (arc ∷ rest) a → HasArc table a) → Trail ArcLeads (arc ∷ rest) from to
      → (other : Arc) → IsAmong rest other → other.from ≡ arc.from → ⊥
  apart arc rest from to within trail other is equal =
      let up = Trail-up_to same_arc rest other trail.0 to is trail.2 in
      let again : IsWalk (HasArc table) from from (arc ∷ up.front) =
      record {
        within = λ a among. elim among [ inl e ↦ within a (inl e) | inr behind ↦ within a (inr (up.among a behind)) ];
        trail = (trail.0, trail.1, subst (Trail ArcLeads up.front trail.0) (sym up.led.0 ∙ equal ∙ trail.1.0) up.trail);
      }
      in
      let empty : IsWalk (HasArc table) from from [] = record { within = λ a none. absurd none; trail = refl } in
      let clash = walks_same from from (arc ∷ up.front) [] again empty in
      cc

  all_apart : (from : ℕ) (rest : List Arc) → ((other : Arc) → IsAmong rest other → other.from ≡ from → ⊥) → AllByRecursion (λ n. eqb from n ≡ false) (map (λ (arc : Arc). arc.from) rest)
  all_apart from [] never = tt
  all_apart from (other ∷ rest) never = (ne_eqb from other.from (λ equal. never other (inl refl) (sym equal)), all_apart from rest (λ a is. never a (inr is)))

  distinct : (walk : List Arc) (from to : ℕ) → ((a : Arc) → IsAmong walk a → HasArc table a) → Trail ArcLeads walk from to → IsDistinct eqb (map (λ (arc : Arc). arc.from) walk)
  unfolding IsDistinct
  distinct [] from to within trail = tt
  distinct (arc ∷ rest) from to within trail = (
    all_apart arc.from rest (apart arc rest from to within trail),
    distinct rest trail.0 to (λ a is. within a (inr is)) trail.2,
  )

  source_within : (o : Option Ways) (kind from to : ℕ) → slice_get table from ≡ o → option_and_then (λ (ways : Ways). way_by ways kind) o ≡ Some to → from < length table
  source_within None kind from to at is = absurd (cc is)
  source_within (Some ways) kind from to at is = slice_get_within table from ways at

  below : (walk : List Arc) → ((a : Arc) → IsAmong walk a → HasArc table a) → (q : ℕ) → list_any (eqb q) (map (λ (arc : Arc). arc.from) walk) ≡ true → q < length table
  below [] within q is = absurd (let clash : false ≡ true = is in cc)
  below (arc ∷ rest) within q is = elim (cases_Bool (eqb q arc.from)) [
    | inl equal ↦
        let low = source_within (slice_get table arc.from) arc.kind arc.from arc.to refl (within arc (inl refl)) in
        let same = eqb-true q arc.from equal in
        omega (arith, low, same)
    | inr differ ↦ below rest (λ a among. within a (inr among)) q (ap (λ b. b || list_any (eqb q) (map (λ (a : Arc). a.from) rest)) (sym differ) ∙ is)
  ]

  pub walk_short : (from to : ℕ) (walk : List Arc) → IsWalk (HasArc table) from to walk → length walk ≤ length table
  walk_short from to walk walks =
      let few = length-le_from_distinct_below (map (λ (arc : Arc). arc.from) walk) (length table) (distinct walk from to walks.within walks.trail) (below walk walks.within) in
      omega (arith, few, length-map walk (λ (arc : Arc). arc.from))

-- What is kept of each node, and that it says where directed walks lead.
use Rattle.std.proofs.Common.{◌≡◌, inl, inr, true, ℕ, ◌+◌, ◌<◌, ◌≤◌, List, [], ◌∷◌, ◌++◌, length, get_or, take, Option, Some, refl, sym, ap, ◌∙◌, subst, arith}
use Rattle.std.specs.Prelude.{slice_get, is_some, ◌↔◌}
use Rattle.std.proofs.lemmas.Option.{none-some, same_Some, slice_get_within, slice_get-get_or, get_or_from_slice_get}
use Rattle.std.proofs.lemmas.List.{map-append, length-map, length-take-le, take_more}
use Rattle.std.proofs.Math.Seq.{take-length}
use Rattle.graph_paths.specs.Paths.{Path}
use Rattle.graph_paths.specs.Forests.{HasNoCycle, IsAmong}
use Rattle.graph_paths.proofs.LawsOfForests.{HasNoCycle-within}
use Rattle.regen_path.specs.declared.arcs.Arc.{Arc}
use Rattle.regen_path.specs.declared.arcs.Ways.{Ways}
use Rattle.regen_path.specs.declared.growing.Visit.{Visit}
use Rattle.regen_path.specs.declared.heights.Span.{Span}
use Rattle.regen_path.specs.declared.heights.Heights.{Heights}
use Rattle.regen_path.specs.declared.paths.Spot.{Spot}
use Rattle.regen_path.specs.Arcs.{HasArc, AreWays}
use Rattle.regen_path.specs.Walks.{ArcLeads, ArcJoins}
use Rattle.regen_path.specs.PathsView.{IsInSpan, RisesAndSinks, AreSpots}
use Rattle.regen_path.specs.Inner.Growing.{IsRooted}
use Rattle.regen_path.specs.Inner.Sources.{LeadWithin}
use Rattle.regen_path.specs.Inner.Heights.{AreLasts, AreHeights, heights_at}
use Rattle.regen_path.specs.Inner.Spots.{AreSpotsBy}
use Rattle.regen_path.proofs.Listing.{get_either}
use Rattle.regen_path.proofs.Reach.{reach_is}
use Rattle.regen_path.proofs.Tabled.{no_ways}

pub spots_none : (numbers : List (Option ℕ)) (heights : List Heights) → AreSpotsBy [] numbers heights []
spots_none numbers heights = record {
  ways = refl;
  number = λ node spot is. absurd (none-some spot is);
  rise = λ node spot is. absurd (none-some spot is);
  sink = λ node spot is. absurd (none-some spot is);
}

pub spots_long : (table : List Ways) (numbers : List (Option ℕ)) (heights : List Heights) (spots : List Spot) → AreSpotsBy table numbers heights spots → length spots ≡ length table
spots_long table numbers heights spots are = sym (length-map spots (λ (spot : Spot). spot.ways)) ∙ ap length are.ways

pub spots_more : (table more : List Ways) (numbers : List (Option ℕ)) (heights : List Heights) (spots : List Spot) (spot : Spot) → more ≡ table ++ spot.ways ∷ [] → slice_get numbers (length table) ≡ Some (Some spot.number)
    → spot.rise ≡ (heights_at heights spot.number).rise → spot.sink ≡ (heights_at heights spot.number).sink
    → AreSpotsBy table numbers heights spots → AreSpotsBy more numbers heights (spots ++ spot ∷ [])
spots_more table more numbers heights spots spot more_is number_is rise_is sink_is are = record {
  ways = map-append (λ (s : Spot). s.ways) spots (spot ∷ []) ∙ ap (λ (list : List Ways). list ++ spot.ways ∷ []) are.ways ∙ sym more_is;
  number = λ node other is. elim (get_either spots spot node other is) [
    | inl old ↦ are.number node other old
    | inr new ↦
        ap (slice_get numbers) (new.0 ∙ spots_long table numbers heights spots are) ∙ number_is ∙ ap (λ (s : Spot). Some (Some s.number)) (sym new.1)
  ];
  rise = λ node other is. elim (get_either spots spot node other is) [
    | inl old ↦ are.rise node other old
    | inr new ↦ subst (λ (s : Spot). s.rise ≡ (heights_at heights s.number).rise) (sym new.1) rise_is
  ];
  sink = λ node other is. elim (get_either spots spot node other is) [
    | inl old ↦ are.sink node other old
    | inr new ↦ subst (λ (s : Spot). s.sink ≡ (heights_at heights s.number).sink) (sym new.1) sink_is
  ];
}

pub spots_are : (table : List Ways) (visits : List Visit) (numbers : List (Option ℕ)) (lasts : List ℕ) (heights : List Heights) (spots : List Spot) → LeadWithin table → HasNoCycle ArcJoins (HasArc table)
    → IsRooted table visits numbers → AreLasts visits lasts → AreHeights visits lasts heights → AreSpotsBy table numbers heights spots → AreSpots spots
spots_are table visits numbers lasts heights spots within forest rooted are high by = record {
  within = subst LeadWithin (sym by.ways) within;
  forest = subst (λ (t : List Ways). HasNoCycle ArcJoins (HasArc t)) (sym by.ways) forest;
  reach = λ from to one other is is_other.
      let ours = reach_is rooted within are high from to one.number other.number (by.number from one is) (by.number to other is_other) in
      let spans = subst (λ (r : Span). (IsInSpan r other.number × IsInSpan (heights_at heights other.number).sink one.number) ↔ Path ArcLeads (HasArc table) from to) (sym (by.rise from one is)) ours in
      let both = subst (λ (s : Span). (IsInSpan one.rise other.number × IsInSpan s one.number) ↔ Path ArcLeads (HasArc table) from to) (sym (by.sink to other is_other)) spans in
      subst (λ (t : List Ways). RisesAndSinks one other ↔ Path ArcLeads (HasArc t) from to) (sym by.ways) both;
}

-- the table of a forest's arcs
pub lead_within : (arcs : List Arc) (count : ℕ) (table : List Ways) → ((arc : Arc) → IsAmong arcs arc → (arc.from < count) × (arc.to < count)) → AreWays arcs count table → LeadWithin table
lead_within arcs count table ends are kind from to is =
    let inside = (ends (record { from = from; to = to; kind = kind }) ((are.has (record { from = from; to = to; kind = kind })).1 is)).1 in omega (arith, are.long)

pub forest_of : (arcs : List Arc) (count : ℕ) (table : List Ways) → HasNoCycle ArcJoins (IsAmong arcs) → AreWays arcs count table → HasNoCycle ArcJoins (HasArc table)
forest_of arcs count table forest are = HasNoCycle-within (λ arc has. (are.has arc).1 has) forest

pub visits_few : (table : List Ways) (visits : List Visit) (numbers : List (Option ℕ)) → IsRooted table visits numbers → length visits ≤ length table
visits_few table visits numbers rooted = let left = rooted.numbered.left in omega arith

-- each node has a number, and heights at it
pub each_has : (table : List Ways) (visits : List Visit) (numbers : List (Option ℕ)) (lasts : List ℕ) (heights : List Heights) → IsRooted table visits numbers → AreHeights visits lasts heights
    → (node : ℕ) → node < length table → (number : ℕ) × (slice_get numbers node ≡ Some (Some number)) × (number < length heights)
each_has table visits numbers lasts heights rooted high node within =
    let (number, is) = rooted.each node within in
    let (visit, at, visit_node) = rooted.numbered.visit node number is in
    let inside = slice_get_within visits number visit at in
    (number, is, omega (arith, high.long))

-- the number of a node, where each has one
module _ (table : List Ways) (numbers : List (Option ℕ)) (heights : List Heights) (long : length numbers ≡ length table)
    (each : (node : ℕ) → node < length table → (number : ℕ) × (slice_get numbers node ≡ Some (Some number)) × (number < length heights)) (node : ℕ) (within : node < length table) (d : Option ℕ) where
  pub each_some : is_some (get_or numbers node d) ≡ true
  each_some = let (number, is, less) = each node within in ap is_some (get_or_from_slice_get numbers node (Some number) d is)

  pub each_below : (found : ℕ) → get_or numbers node d ≡ Some found → found < length heights
  each_below found read =
      let (number, is, less) = each node within in
      let equal : number ≡ found = same_Some number found (sym (get_or_from_slice_get numbers node (Some number) d is) ∙ read) in
      subst (λ (n : ℕ). n < length heights) equal less

  each_read : (found : ℕ) → get_or numbers node d ≡ Some found → slice_get numbers (length (take node table)) ≡ Some (Some found)
  each_read found read =
      ap (slice_get numbers) (length-take-le node table (omega arith))
      ∙ slice_get-get_or numbers node d (omega arith)
      ∙ ap (λ (o : Option ℕ). Some o) read

  pub each_more : (spots : List Spot) (spot : Spot) → get_or numbers node d ≡ Some spot.number → spot.ways ≡ get_or table node no_ways → spot.rise ≡ (heights_at heights spot.number).rise
      → spot.sink ≡ (heights_at heights spot.number).sink → AreSpotsBy (take node table) numbers heights spots → AreSpotsBy (take (node + 1) table) numbers heights (spots ++ spot ∷ [])
  each_more spots spot read ways rise sink are =
      spots_more (take node table) (take (node + 1) table) numbers heights spots spot (take_more table node no_ways within ∙ ap (λ (w : Ways). take node table ++ w ∷ []) (sym ways)) (each_read spot.number read) rise sink are

pub spots_all : (table : List Ways) (numbers : List (Option ℕ)) (heights : List Heights) (spots : List Spot) → AreSpotsBy (take (length table) table) numbers heights spots → AreSpotsBy table numbers heights spots
spots_all table numbers heights spots are = subst (λ (t : List Ways). AreSpotsBy t numbers heights spots) (take-length table) are

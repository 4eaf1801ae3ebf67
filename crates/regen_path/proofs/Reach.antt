-- Directed walks in rooted trees: they rise and then sink, so comparing numbers tells where they lead.
use Rattle.std.proofs.Common.{◌≡◌, inl, inr, ℕ, zero, suc, ◌-◌, ◌<◌, ◌≤◌, List, Option, Some, length, get_or, refl, sym, ap, ◌∙◌, subst, arith}
use Rattle.std.specs.Prelude.{slice_get, slice_index, ◌↔◌}
use Rattle.std.proofs.lemmas.Bool.{cases_lt}
use Rattle.std.proofs.lemmas.Option.{same_Some, slice_get_within, slice_get-get_or}
use Rattle.graph_paths.specs.Paths.{Path, here, over}
use Rattle.graph_paths.proofs.LawsOfPaths.{Path-append}
use Rattle.regen_path.specs.declared.arcs.Arc.{Arc}
use Rattle.regen_path.specs.declared.arcs.Ways.{Ways}
use Rattle.regen_path.specs.declared.growing.Link.{Link}
use Rattle.regen_path.specs.declared.growing.Link.TheVariants.{Root, Up, Down}
use Rattle.regen_path.specs.declared.growing.Visit.{Visit}
use Rattle.regen_path.specs.declared.heights.Span.{Span}
use Rattle.regen_path.specs.declared.heights.Heights.{Heights}
use Rattle.regen_path.specs.Arcs.{HasArc, way_from}
use Rattle.regen_path.specs.Walks.{ArcLeads}
use Rattle.regen_path.specs.PathsView.{IsInSpan}
use Rattle.regen_path.specs.Inner.Growing.{IsAbove, same, under, parent_of, IsByDepth, HangsBy, AreLinked, IsNumbered, IsRooted}
use Rattle.regen_path.specs.Inner.Sources.{LeadWithin}
use Rattle.regen_path.specs.Inner.Heights.{AreLasts, AreHeights, span_at, heights_at, heights_by}
use Rattle.regen_path.proofs.Above.{above_on, above_parent, above_less, above_between}

-- arcs towards the root lead from one node to another
data Rise (visits : List Visit) (top : ℕ) : ℕ → Type 0 where
  risen : Rise visits top top
  up : {low parent : ℕ} (visit : Visit) → slice_get visits low ≡ Some visit → visit.link ≡ Up parent → Rise visits top parent → Rise visits top low

-- arcs away from the root lead from one node to another
data Sink (visits : List Visit) (top : ℕ) : ℕ → Type 0 where
  sunk : Sink visits top top
  down : {low parent : ℕ} (visit : Visit) → slice_get visits low ≡ Some visit → visit.link ≡ Down parent → Sink visits top parent → Sink visits top low

-- the node with a number
abbrev IsNodeAt : List Visit → (number node : ℕ) → Type 0
IsNodeAt visits number node = (visit : Visit) × (slice_get visits number ≡ Some visit) × (visit.node ≡ node)

same_node : (visits : List Visit) (number one other : ℕ) → IsNodeAt visits number one → IsNodeAt visits number other → one ≡ other
same_node visits number one other first second =
    let equal : first.0 ≡ second.0 = same_Some first.0 second.0 (sym first.1 ∙ second.1) in
    sym first.2 ∙ ap (λ (v : Visit). v.node) equal ∙ second.2

module _ {visits : List Visit} where
  rise_above : {top low : ℕ} → Rise visits top low → IsAbove visits top low
  rise_above risen = same
  rise_above (up visit is link rest) = under visit is (ap parent_of link) (rise_above rest)

  sink_above : {top low : ℕ} → Sink visits top low → IsAbove visits top low
  sink_above sunk = same
  sink_above (down visit is link rest) = under visit is (ap parent_of link) (sink_above rest)

  -- what rises to a top rises to each node on the way
  rise_to : {table : List Ways} → IsByDepth table visits → {top low : ℕ} → Rise visits top low → (mid : ℕ) → IsAbove visits mid low → top ≤ mid → Rise visits mid low
  rise_to order {top} risen mid above less =
      let equal : mid ≡ top = (let more = above_less order above in omega arith) in subst (λ (n : ℕ). Rise visits mid n) equal risen
  rise_to order (up {low} {parent} visit is link rest) mid above less = elim (above_parent above parent visit is (ap parent_of link)) [
    | inl equal ↦ subst (λ (n : ℕ). Rise visits mid n) equal risen
    | inr higher ↦ up visit is link (rise_to order rest mid higher less)
  ]

  sink_from : {table : List Ways} → IsByDepth table visits → {top low : ℕ} → Sink visits top low → (mid : ℕ) → IsAbove visits mid low → top ≤ mid → Sink visits mid low
  sink_from order {top} sunk mid above less =
      let equal : mid ≡ top = (let more = above_less order above in omega arith) in subst (λ (n : ℕ). Sink visits mid n) equal sunk
  sink_from order (down {low} {parent} visit is link rest) mid above less = elim (above_parent above parent visit is (ap parent_of link)) [
    | inl equal ↦ subst (λ (n : ℕ). Sink visits mid n) equal sunk
    | inr higher ↦ down visit is link (sink_from order rest mid higher less)
  ]

  rise_path : {table : List Ways} → IsByDepth table visits → {top low : ℕ} → Rise visits top low → (from to : ℕ) → IsNodeAt visits low from → IsNodeAt visits top to → Path ArcLeads (HasArc table) from to
  rise_path {table} order {top} risen from to first last = subst (Path ArcLeads (HasArc table) from) (same_node visits top from to first last) here
  rise_path {table} order (up {low} {parent} visit is link rest) from to first last =
      let hangs = subst (HangsBy table visits visit.node) link (order.hangs low visit is) in
      let on = rise_path order rest hangs.0.node to (hangs.0, hangs.1, refl) last in
      let arc : Arc = record { from = visit.node; to = hangs.0.node; kind = hangs.2.0 } in
      let begins : visit.node ≡ from = same_node visits low visit.node from (visit, is, refl) first in
      over arc hangs.2.1 (begins, refl) on

  sink_path : {table : List Ways} → IsByDepth table visits → {top low : ℕ} → Sink visits top low → (from to : ℕ) → IsNodeAt visits top from → IsNodeAt visits low to → Path ArcLeads (HasArc table) from to
  sink_path {table} order {top} sunk from to first last = subst (Path ArcLeads (HasArc table) from) (same_node visits top from to first last) here
  sink_path {table} order (down {low} {parent} visit is link rest) from to first last =
      let hangs = subst (HangsBy table visits visit.node) link (order.hangs low visit is) in
      let on = sink_path order rest from hangs.0.node first (hangs.0, hangs.1, refl) in
      let arc : Arc = record { from = hangs.0.node; to = visit.node; kind = hangs.2.0 } in
      let ends : visit.node ≡ to = same_node visits low visit.node to (visit, is, refl) last in
      Path-append on (over arc hangs.2.1 (refl, ends) here)

module _ {table : List Ways} {visits : List Visit} (order : IsByDepth table visits) {lasts : List ℕ} (are : AreLasts visits lasts) where
  lasts_less : {high low : ℕ} → IsAbove visits high low → slice_index lasts low ≤ slice_index lasts high
  lasts_less same = omega arith
  lasts_less (under {low} {parent} visit is hangs rest) = let less = are.most low parent visit is hangs in let more = lasts_less rest in omega arith

  above_in : {high low : ℕ} → low < length visits → IsAbove visits high low → IsInSpan (span_at lasts high) low
  above_in within above =
      let own = above_less order (are.under _ within) in
      let less = lasts_less above in
      (above_less order above, omega arith)

  in_above : (high low : ℕ) → high < length visits → IsInSpan (span_at lasts high) low → IsAbove visits high low
  in_above high low within inside = above_between order (slice_index lasts high - low) high low (slice_index lasts high) (omega arith) inside.0 (are.under high within)

  module _ {heights : List Heights} (high : AreHeights visits lasts heights) where
    -- the top to which a node rises
    record Risen (number : ℕ) : Type 0 where
      top : ℕ
      is : (heights_at heights number).rise ≡ span_at lasts top
      rise : Rise visits top number

    -- the top from which a node is sunk to, and no arc leads there from above
    record Sunken (number : ℕ) : Type 0 where
      top : ℕ
      is : (heights_at heights number).sink ≡ span_at lasts top
      sink : Sink visits top number
      last : (parent : ℕ) (visit : Visit) → slice_get visits top ≡ Some visit → visit.link ≡ Down parent → ⊥

    heights_are : (number : ℕ) (visit : Visit) (link : Link) → slice_get visits number ≡ Some visit → visit.link ≡ link → heights_at heights number ≡ heights_by (span_at lasts number) heights link
    heights_are number visit link is link_is = high.each number visit is ∙ ap (heights_by (span_at lasts number) heights) link_is

    other_link : (number parent : ℕ) (visit : Visit) (link : Link) → slice_get visits number ≡ Some visit → visit.link ≡ link → (link ≡ Down parent → ⊥)
        → (other : Visit) → slice_get visits number ≡ Some other → other.link ≡ Down parent → ⊥
    other_link number parent visit link is link_is differ other is_other down_is =
        let equal : other ≡ visit = same_Some other visit (sym is_other ∙ is) in
        differ (sym link_is ∙ ap (λ (v : Visit). v.link) (sym equal) ∙ down_is)

    rises_by : (number : ℕ) (visit : Visit) (link : Link) → slice_get visits number ≡ Some visit → visit.link ≡ link → ((parent : ℕ) → parent_of link ≡ Some parent → Risen parent) → Risen number
    rises_by number visit Root is link_is before = record { top = number; is = ap (λ (h : Heights). h.rise) (heights_are number visit Root is link_is); rise = risen }
    rises_by number visit (Up parent) is link_is before =
        let more = before parent refl in
        record { top = more.top; is = ap (λ (h : Heights). h.rise) (heights_are number visit (Up parent) is link_is) ∙ more.is; rise = up visit is link_is more.rise }
    rises_by number visit (Down parent) is link_is before = record { top = number; is = ap (λ (h : Heights). h.rise) (heights_are number visit (Down parent) is link_is); rise = risen }

    sinks_by : (number : ℕ) (visit : Visit) (link : Link) → slice_get visits number ≡ Some visit → visit.link ≡ link → ((parent : ℕ) → parent_of link ≡ Some parent → Sunken parent) → Sunken number
    sinks_by number visit Root is link_is before = record {
      top = number;
      is = ap (λ (h : Heights). h.sink) (heights_are number visit Root is link_is);
      sink = sunk;
      last = λ parent other is_other down_is. other_link number parent visit Root is link_is (λ clash. cc) other is_other down_is;
    }
    sinks_by number visit (Up above) is link_is before = record {
      top = number;
      is = ap (λ (h : Heights). h.sink) (heights_are number visit (Up above) is link_is);
      sink = sunk;
      last = λ parent other is_other down_is. other_link number parent visit (Up above) is link_is (λ clash. cc) other is_other down_is;
    }
    sinks_by number visit (Down parent) is link_is before =
        let more = before parent refl in
        record { top = more.top; is = ap (λ (h : Heights). h.sink) (heights_are number visit (Down parent) is link_is) ∙ more.is; sink = down visit is link_is more.sink; last = more.last }

    -- a parent was visited too
    parent_at : (number parent : ℕ) (visit : Visit) → slice_get visits number ≡ Some visit → parent_of visit.link ≡ Some parent → slice_get visits parent ≡ Some (get_or visits parent visit)
    parent_at number parent visit is hangs =
        let lower = order.lower number parent visit is hangs in
        let within = slice_get_within visits number visit is in
        slice_get-get_or visits parent visit (omega arith)

    risen_of : (bound number : ℕ) (visit : Visit) → number < bound → slice_get visits number ≡ Some visit → Risen number
    risen_of zero number visit less is = absurd (omega arith)
    risen_of (suc bound) number visit less is = rises_by number visit visit.link is refl (λ parent hangs.
        let lower = order.lower number parent visit is hangs in
        risen_of bound parent (get_or visits parent visit) (omega arith) (parent_at number parent visit is hangs))

    sunken_of : (bound number : ℕ) (visit : Visit) → number < bound → slice_get visits number ≡ Some visit → Sunken number
    sunken_of zero number visit less is = absurd (omega arith)
    sunken_of (suc bound) number visit less is = sinks_by number visit visit.link is refl (λ parent hangs.
        let lower = order.lower number parent visit is hangs in
        sunken_of bound parent (get_or visits parent visit) (omega arith) (parent_at number parent visit is hangs))

    -- the one rises to what is above the other, and this is sunk to from what is above the one
    abbrev Reaches : (one other : ℕ) → Type 0
    Reaches one other = IsInSpan (heights_at heights one).rise other × IsInSpan (heights_at heights other).sink one

    reach_own : (number : ℕ) (visit : Visit) → slice_get visits number ≡ Some visit → Reaches number number
    reach_own number visit is =
        let within = slice_get_within visits number visit is in
        let rises = risen_of (suc number) number visit (omega arith) is in
        let sinks = sunken_of (suc number) number visit (omega arith) is in (
          subst (λ (span : Span). IsInSpan span number) (sym rises.is) (above_in within (rise_above rises.rise)),
          subst (λ (span : Span). IsInSpan span number) (sym sinks.is) (above_in within (sink_above sinks.sink)),
        )

    -- an arc to the parent, and on from there
    reach_up : (number parent goal : ℕ) (visit last : Visit) → slice_get visits number ≡ Some visit → slice_get visits goal ≡ Some last → visit.link ≡ Up parent → Reaches parent goal → Reaches number goal
    reach_up number parent goal visit last is is_last link reaches =
        let sinks = sunken_of (suc goal) goal last (omega arith) is_last in
        let hangs : parent_of visit.link ≡ Some parent = ap parent_of link in
        let lower = order.lower number parent visit is hangs in
        let within = slice_get_within visits number visit is in
        let goal_within = slice_get_within visits goal last is_last in
        let low = above_less order (sink_above sinks.sink) in
        let above = in_above sinks.top parent (omega arith) (subst (λ (span : Span). IsInSpan span parent) sinks.is reaches.1) in
        let higher : IsAbove visits sinks.top number = under visit is hangs above in (
          subst (λ (h : Heights). IsInSpan h.rise goal) (sym (heights_are number visit (Up parent) is link)) reaches.0,
          subst (λ (span : Span). IsInSpan span number) (sym sinks.is) (above_in within higher),
        )

    -- an arc from the parent, and on from there
    reach_down : (number parent goal : ℕ) (visit first last : Visit) → slice_get visits number ≡ Some visit → slice_get visits parent ≡ Some first → slice_get visits goal ≡ Some last
        → visit.link ≡ Down parent → Reaches number goal → Reaches parent goal
    reach_down number parent goal visit first last is is_first is_last link reaches =
        let rises = risen_of (suc parent) parent first (omega arith) is_first in
        let sinks = sunken_of (suc goal) goal last (omega arith) is_last in
        let hangs : parent_of visit.link ≡ Some parent = ap parent_of link in
        let lower = order.lower number parent visit is hangs in
        let within = slice_get_within visits number visit is in
        let parent_within = slice_get_within visits parent first is_first in
        let goal_within = slice_get_within visits goal last is_last in
        let low = above_less order (sink_above sinks.sink) in
        let here_above = in_above number goal within (subst (λ (h : Heights). IsInSpan h.rise goal) (heights_are number visit (Down parent) is link) reaches.0) in
        let top_above : IsAbove visits rises.top goal = above_on (under visit is hangs (rise_above rises.rise)) here_above in
        let above = in_above sinks.top number (omega arith) (subst (λ (span : Span). IsInSpan span number) sinks.is reaches.1) in
        let higher : IsAbove visits sinks.top parent = elim (above_parent above parent visit is hangs) [
          | inl equal ↦ absurd (sinks.last parent visit (ap (slice_get visits) equal ∙ is) link)
          | inr further ↦ further
        ] in (
          subst (λ (span : Span). IsInSpan span goal) (sym rises.is) (above_in goal_within top_above),
          subst (λ (span : Span). IsInSpan span parent) (sym sinks.is) (above_in parent_within higher),
        )

    -- where the numbers say so, a directed walk leads
    reach_path : (one other from to : ℕ) → IsNodeAt visits one from → IsNodeAt visits other to → Reaches one other → Path ArcLeads (HasArc table) from to
    reach_path one other from to first last reaches =
        let rises = risen_of (suc one) one first.0 (omega arith) first.1 in
        let sinks = sunken_of (suc other) other last.0 (omega arith) last.1 in
        let one_within = slice_get_within visits one first.0 first.1 in
        let other_within = slice_get_within visits other last.0 last.1 in
        let low = above_less order (rise_above rises.rise) in
        let low_too = above_less order (sink_above sinks.sink) in
        let above : IsAbove visits rises.top other = in_above rises.top other (omega arith) (subst (λ (span : Span). IsInSpan span other) rises.is reaches.0) in
        let above_too : IsAbove visits sinks.top one = in_above sinks.top one (omega arith) (subst (λ (span : Span). IsInSpan span one) sinks.is reaches.1) in
        elim (cases_lt rises.top sinks.top) [
          | inl higher ↦ meet sinks.top (omega arith) (rise_to order rises.rise sinks.top above_too (omega arith)) sinks.sink
          | inr lower ↦ meet rises.top (omega arith) rises.rise (sink_from order sinks.sink rises.top above (omega arith))
        ]
      where
        meet : (mid : ℕ) → mid < length visits → Rise visits mid one → Sink visits mid other → Path ArcLeads (HasArc table) from to
        meet mid within rise sink =
            let at : IsNodeAt visits mid (get_or visits mid first.0).node = (get_or visits mid first.0, slice_get-get_or visits mid first.0 within, refl) in
            Path-append (rise_path order rise from (get_or visits mid first.0).node first at) (sink_path order sink (get_or visits mid first.0).node to at last)

-- the numbers say where directed walks lead
module _ {table : List Ways} {visits : List Visit} {numbers : List (Option ℕ)} (rooted : IsRooted table visits numbers) (within : LeadWithin table)
    {lasts : List ℕ} (are : AreLasts visits lasts) {heights : List Heights} (high : AreHeights visits lasts heights) where
  path_reach : {from to : ℕ} → Path ArcLeads (HasArc table) from to → (one other : ℕ) → IsNumbered numbers from one → IsNumbered numbers to other → Reaches rooted.order are high one other
  path_reach {from} here one other first last =
      let equal : one ≡ other = same_Some one other (same_Some (Some one) (Some other) (sym first ∙ last)) in
      let (visit, is, node) = rooted.numbered.visit from one first in
      subst (Reaches rooted.order are high one) equal (reach_own rooted.order are high one visit is)
  path_reach (over {from} {mid} {to} arc is leads rest) one other first last =
      let linked : AreLinked table from mid =
      (arc.kind, subst (λ (n : ℕ). way_from table arc.kind n ≡ Some mid) leads.0 (subst (λ (n : ℕ). way_from table arc.kind arc.from ≡ Some n) leads.1 is)) in
      let (next, numbered) = rooted.each mid (within linked.0 from mid linked.1) in
      let (first_visit, first_is, first_node) = rooted.numbered.visit from one first in
      let (next_visit, next_is, next_node) = rooted.numbered.visit mid next numbered in
      let (last_visit, last_is, last_node) = rooted.numbered.visit to other last in
      let on = path_reach rest next other numbered last in
      elim (rooted.links from mid one next linked first numbered) [
        | inl rising ↦ reach_up rooted.order are high one next other rising.0 last_visit rising.1 last_is rising.2 on
        | inr sinking ↦ reach_down rooted.order are high next one other sinking.0 first_visit last_visit sinking.1 first_is last_is sinking.2 on
      ]

  pub reach_is : (from to one other : ℕ) → IsNumbered numbers from one → IsNumbered numbers to other
      → (IsInSpan (heights_at heights one).rise other × IsInSpan (heights_at heights other).sink one) ↔ Path ArcLeads (HasArc table) from to
  reach_is from to one other first last =
      let (first_visit, first_is, first_node) = rooted.numbered.visit from one first in
      let (last_visit, last_is, last_node) = rooted.numbered.visit to other last in (
        λ reaches. reach_path rooted.order are high one other from to (first_visit, first_is, first_node) (last_visit, last_is, last_node) reaches,
        λ path. path_reach path one other first last,
      )

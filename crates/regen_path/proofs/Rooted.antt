-- In a forest each arc is a link of the trees that were grown: one that isn't would close a cycle over those that are.
use Rattle.std.proofs.Common.{◌≡◌, ◌≢◌, ◌⊎◌, inl, inr, ℕ, ◌<◌, List, [], length, get_or, Option, Some, refl, sym, ap, ◌∙◌, subst, arith}
use Rattle.std.specs.Prelude.{slice_get}
use Rattle.std.proofs.lemmas.Bool.{cases_eq}
use Rattle.std.proofs.lemmas.Option.{none-some, same_Some, slice_get_within, slice_get-get_or}
use Rattle.graph_paths.specs.Paths.{Path, here, over}
use Rattle.graph_paths.specs.Forests.{HasNoCycle}
use Rattle.graph_paths.proofs.LawsOfPaths.{Path-append, Path-turned}
use Rattle.regen_path.specs.declared.arcs.Arc.{Arc}
use Rattle.regen_path.specs.declared.arcs.Ways.{Ways}
use Rattle.regen_path.specs.declared.growing.Link.{Link}
use Rattle.regen_path.specs.declared.growing.Link.TheVariants.{Root, Up, Down}
use Rattle.regen_path.specs.declared.growing.Visit.{Visit}
use Rattle.regen_path.specs.Arcs.{HasArc}
use Rattle.regen_path.specs.Walks.{ArcJoins, forth, back}
use Rattle.regen_path.specs.Inner.Growing.{IsAbove, same, under, parent_of, IsByDepth, HangsBy, AreLinked, IsNumbered, AreNumbered, AreGrowing, IsRooted}
use Rattle.regen_path.proofs.LawsOfArcs.{arcs_undirected}

is_up : (link : Link) (number : ℕ) → (link ≡ Up number) ⊎ (link ≡ Up number → ⊥)
is_up Root number = inr (λ clash. cc)
is_up (Up parent) number = elim (cases_eq parent number) [ inl equal ↦ inl (ap Up equal) | inr differ ↦ inr (λ equal. differ (cc)) ]
is_up (Down parent) number = inr (λ clash. cc)

is_down : (link : Link) (number : ℕ) → (link ≡ Down number) ⊎ (link ≡ Down number → ⊥)
is_down Root number = inr (λ clash. cc)
is_down (Up parent) number = inr (λ clash. cc)
is_down (Down parent) number = elim (cases_eq parent number) [ inl equal ↦ inl (ap Down equal) | inr differ ↦ inr (λ equal. differ (cc)) ]

module _ {table : List Ways} {visits : List Visit} {numbers : List (Option ℕ)} (numbered : AreNumbered (length table) visits numbers) (order : IsByDepth table visits)
    (edge : Arc) (one other : ℕ) (first last : Visit) (is_first : slice_get visits one ≡ Some first) (is_last : slice_get visits other ≡ Some last) (begins : edge.from ≡ first.node) (ends : edge.to ≡ last.node)
    (not_up : first.link ≡ Up other → ⊥) (not_down : last.link ≡ Down one → ⊥) where
  -- two visits of one node are the same
  same_number : (number next : ℕ) (visit mate : Visit) → slice_get visits number ≡ Some visit → slice_get visits next ≡ Some mate → visit.node ≡ mate.node → number ≡ next
  same_number number next visit mate is is_mate node =
      let mine = numbered.number number visit is in
      let theirs = numbered.number next mate is_mate in
      same_Some number next (same_Some (Some number) (Some next) (sym mine ∙ ap (slice_get numbers) node ∙ theirs))

  same_visit : (number next : ℕ) (visit mate : Visit) → slice_get visits number ≡ Some visit → slice_get visits next ≡ Some mate → number ≡ next → visit ≡ mate
  same_visit number next visit mate is is_mate equal = same_Some visit mate (sym is ∙ ap (slice_get visits) equal ∙ is_mate)

  abbrev Others : Arc → Type 0
  Others arc = HasArc table arc × (arc ≢ edge)

  -- the links above a node join it to what is there
  by_link : (number parent : ℕ) (visit : Visit) (link : Link) → slice_get visits number ≡ Some visit → visit.link ≡ link → parent_of link ≡ Some parent → HangsBy table visits visit.node link
      → (mate : Visit) × (slice_get visits parent ≡ Some mate) × Path ArcJoins Others mate.node visit.node
  by_link number parent visit Root is link hangs hung = absurd (none-some parent hangs)
  by_link number parent visit (Up found) is link hangs hung =
      let arc : Arc = record { from = visit.node; to = hung.0.node; kind = hung.2.0 } in
      let parent_is : found ≡ parent = same_Some found parent hangs in
      let apart : arc ≢ edge = λ equal.
      let from_is : visit.node ≡ first.node = ap (λ (a : Arc). a.from) equal ∙ begins in
      let to_is : hung.0.node ≡ last.node = ap (λ (a : Arc). a.to) equal ∙ ends in
      let at = same_number number one visit first is is_first from_is in
      let to_at = same_number found other hung.0 last hung.1 is_last to_is in
      not_up (ap (λ (v : Visit). v.link) (sym (same_visit number one visit first is is_first at)) ∙ link ∙ ap Up to_at)
      in
      (hung.0, ap (slice_get visits) (sym parent_is) ∙ hung.1, over arc (hung.2.1, apart) (back (refl, refl)) here)
  by_link number parent visit (Down found) is link hangs hung =
      let arc : Arc = record { from = hung.0.node; to = visit.node; kind = hung.2.0 } in
      let parent_is : found ≡ parent = same_Some found parent hangs in
      let apart : arc ≢ edge = λ equal.
      let from_is : hung.0.node ≡ first.node = ap (λ (a : Arc). a.from) equal ∙ begins in
      let to_is : visit.node ≡ last.node = ap (λ (a : Arc). a.to) equal ∙ ends in
      let at = same_number number other visit last is is_last to_is in
      let from_at = same_number found one hung.0 first hung.1 is_first from_is in
      not_down (ap (λ (v : Visit). v.link) (sym (same_visit number other visit last is is_last at)) ∙ link ∙ ap Down from_at)
      in
      (hung.0, ap (slice_get visits) (sym parent_is) ∙ hung.1, over arc (hung.2.1, apart) (forth (refl, refl)) here)

  by_links : {top number : ℕ} → IsAbove visits top number → (high low : Visit) → slice_get visits top ≡ Some high → slice_get visits number ≡ Some low → Path ArcJoins Others high.node low.node
  by_links {top} same high low is_high is_low = subst (λ (v : Visit). Path ArcJoins Others high.node v.node) (same_Some high low (sym is_high ∙ is_low)) here
  by_links (under {low = number} {parent} visit is hangs rest) high low is_high is_low =
      let link = by_link number parent visit visit.link is refl hangs (order.hangs number visit is) in
      let on = Path-append (by_links rest high link.0 is_high link.1) link.2 in
      subst (λ (v : Visit). Path ArcJoins Others high.node v.node) (same_Some visit low (sym is ∙ is_low)) on

  cycle : HasNoCycle ArcJoins (HasArc table) → HasArc table edge → (top : ℕ) (high : Visit) → slice_get visits top ≡ Some high → IsAbove visits top one → IsAbove visits top other → ⊥
  cycle forest has top high is_high above above_other = forest edge has (record {
    from = first.node;
    to = last.node;
    ends = forth (begins, ends);
    path = Path-append (Path-turned arcs_undirected (by_links above high first is_high is_first)) (by_links above_other high last is_high is_last);
  })

-- a node above another was visited
top_visit : {visits : List Visit} {top number : ℕ} → IsAbove visits top number → (visit : Visit) → slice_get visits number ≡ Some visit → (table : List Ways) → IsByDepth table visits → (high : Visit) × (slice_get visits top ≡ Some high)
top_visit {visits} {top} same visit is table order = (visit, is)
top_visit {visits} (under {low = number} {parent} mate at hangs rest) visit is table order =
    let lower = order.lower number parent mate at hangs in
    let within = slice_get_within visits number mate at in
    top_visit rest (get_or visits parent visit) (slice_get-get_or visits parent visit (omega arith)) table order

pub rooted : (table : List Ways) (visits : List Visit) (numbers : List (Option ℕ)) (root : ℕ) → HasNoCycle ArcJoins (HasArc table) → AreGrowing table visits numbers [] root
    → ((node : ℕ) → node < length table → (number : ℕ) × IsNumbered numbers node number) → IsRooted table visits numbers
rooted table visits numbers root forest growing each = record { numbered = growing.numbered; order = growing.order; each = each; links = links }
  where
    links : (from to number next : ℕ) → AreLinked table from to → IsNumbered numbers from number → IsNumbered numbers to next
        → ((visit : Visit) × (slice_get visits number ≡ Some visit) × (visit.link ≡ Up next)) ⊎ ((visit : Visit) × (slice_get visits next ≡ Some visit) × (visit.link ≡ Down number))
    links from to number next linked first last =
        let (visit, is, node) = growing.numbered.visit from number first in
        let (mate, is_mate, mate_node) = growing.numbered.visit to next last in
        let (top, above, above_next) = growing.shared from to number next (inl linked) first last in
        let (high, is_high) = top_visit above visit is table growing.order in
        let edge : Arc = record { from = from; to = to; kind = linked.0 } in
        elim (is_up visit.link next) [
          | inl rising ↦ inl (visit, is, rising)
          | inr not_up ↦ elim (is_down mate.link number) [
            | inl sinking ↦ inr (mate, is_mate, sinking)
            | inr not_down ↦ absurd (cycle growing.numbered growing.order edge number next visit mate is is_mate (sym node) (sym mate_node) not_up not_down forest linked.1 top high is_high above above_next)
          ]
        ]

-- The edges between the code words of an image that aren't recorded have no cycle, where the edges between its blocks that aren't marked
-- have none. An edge from the last word of a block is one between blocks; each other edge goes on within a block, and such edges alone
-- have no cycle, since they lead to higher addresses and only one leaves each word.
use Rattle.std.proofs.Common.{◌≡◌, ◌≢◌, ◌⊎◌, inl, inr, ℕ, ◌+◌, ◌%◌, ◌<◌, ◌≤◌, ◌^◌, Bool, true, false, List, length, get_or, Option, Some, None, refl, sym, ap, subst, ◌∙◌, arith}
use Rattle.std.specs.Prelude.{slice_get}
use Rattle.std.specs.List.{AllByRecursion}
use Rattle.std.specs.Option.{option_map}
use Rattle.std.proofs.lemmas.Bool.{cases_Bool, cases_eq}
use Rattle.std.proofs.lemmas.Option.{slice_get_within, slice_get-get_or, get_or_from_slice_get, some_pair_parts}
use Rattle.rv_code.specs.declared.extent.Extent.{Extent}
use Rattle.rv_code.specs.Code.{extents_of}
use Rattle.rv_code.specs.Image.{word_count}
use Rattle.rv_code.specs.Places.{address_of, code_addresses, AreCodeExtents}
use Rattle.rv_code.proofs.LawsOfLookUps.{address_of-place_of}
use Rattle.rv_code.proofs.LawsOfPlaces.{is_code-aligned}
use Rattle.rv_code.proofs.LawsOfElements.{same_item}
use Rattle.flow_graph.specs.declared.edge.Edge.{Edge}
use Rattle.flow_graph.specs.Blocks.{block_at, is_last}
use Rattle.flow_graph.specs.CodeParts.{CodeParts, has_code}
use Rattle.flow_graph.specs.Edges.{edges_of, kind_by, way_among}
use Rattle.flow_graph.specs.Laws.{BlocksAreRuns, WordsAreInOneBlock}
use Rattle.graph_paths.specs.Paths.{Path, here, over, Closes}
use Rattle.graph_paths.proofs.LawsOfPaths.{Path-edge, Path-turned}
use Rattle.graph_paths.proofs.LawsOfForests.{HasNoCycle-within}
use Rattle.graph_paths.proofs.LawsOfTwoSorts.{two_sorts, numbers_below, among_numbers, numbers_among, numbers_once, path_over_parts}
use Rattle.flow_tree.specs.WitnessEdges.{LeadsTo, Joins, joins_forth, joins_back, IsUnmarked, CutsCycles}
use Rattle.flow_tree.proofs.LawsOfJoins.{Joins-IsUndirected}
use Rattle.schema_form.specs.declared.word.SchemaWord.{SchemaWord}
use Rattle.schema_form.specs.FreeEdges.{free_edges, HaveNoCycle}
use Rattle.schema_form.specs.OfImage.{AreSchemaWordsOf}
use Rattle.schema_form.specs.Valid.{EndsBelowStack}
use Rattle.schema_form.proofs.OwnEdges.{IsFree, code_at, small_at, free_at, one_edge, target_code}
use Rattle.schema_form.proofs.WordBlocks.{edge_for, has_block, goes_on, taken_ends, falls_behind}

-- an edge that leads from one place to another
record Leading (edges : List Edge) (number from to : ℕ) : Type 0 where
  edge : Edge
  there : slice_get edges number ≡ Some edge
  source : edge.source ≡ from
  goal : edge.to ≡ Some to

leading_by : (found : Option Edge) (from to : ℕ) → option_map {U = ℕ × Option ℕ} (λ (edge : Edge). (edge.source, edge.to)) found ≡ Some (from, Some to)
    → (edge : Edge) × (found ≡ Some edge) × (edge.source ≡ from) × (edge.to ≡ Some to)
leading_by None from to is = absurd (cc is)
leading_by (Some edge) from to is = let both = some_pair_parts edge.source from edge.to (Some to) is in (edge, refl, both.0, both.1)

leading : (edges : List Edge) (number from to : ℕ) → LeadsTo edges number from to → Leading edges number from to
leading edges number from to leads = let found = leading_by (slice_get edges number) from to leads in record { edge = found.0; there = found.1; source = found.2; goal = found.3 }

leads_by : (edges : List Edge) (number from to : ℕ) (edge : Edge) → slice_get edges number ≡ Some edge → edge.source ≡ from → edge.to ≡ Some to → LeadsTo edges number from to
leads_by edges number from to edge there source goal =
    ap (option_map (λ (e : Edge). (e.source, e.to))) there ∙ (λ i. Some (source i, goal i))

abbrev number_in : Option ℕ → ℕ
number_in None = 0
number_in (Some number) = number

module _ (parts : CodeParts) (marks : List Bool) (words : List SchemaWord) (order : AreCodeExtents (extents_of parts.code)) (below : AllByRecursion EndsBelowStack (extents_of parts.code))
    (runs : BlocksAreRuns parts) (once : WordsAreInOneBlock parts) (cuts : CutsCycles (edges_of parts) marks) (are : AreSchemaWordsOf parts marks (word_count parts.code) words)
    (count : length marks ≡ length (edges_of parts)) where
  abbrev stretches : List Extent
  stretches = extents_of parts.code

  abbrev frees : List Edge
  frees = free_edges stretches words

  -- the address of a place, and the number of its block
  abbrev address_at : ℕ → ℕ
  address_at place = get_or (code_addresses stretches) place 0

  abbrev part : ℕ → ℕ
  part place = number_in (block_at parts (address_at place))

  address_is : (place address : ℕ) → address_of stretches place ≡ Some address → address_at place ≡ address
  address_is place address at = get_or_from_slice_get (code_addresses stretches) place address 0 at

  part_is : (place address number : ℕ) → address_of stretches place ≡ Some address → block_at parts address ≡ Some number → part place ≡ number
  part_is place address number at block = ap (λ (a : ℕ). number_in (block_at parts a)) (address_is place address at) ∙ ap number_in block

  is_free : (number : ℕ) (edge : Edge) → slice_get frees number ≡ Some edge → IsFree parts marks edge
  is_free number edge there = free_at parts marks words order below runs once cuts are number edge there

  code_from : (edge : Edge) → IsFree parts marks edge → has_code parts edge.from ≡ true
  code_from edge free = code_at parts marks words order below runs once cuts are edge.source edge.from free.at

  small_from : (edge : Edge) → IsFree parts marks edge → edge.from + 4 < 2 ^ 32
  small_from edge free = small_at parts marks words order below runs once cuts are edge.from (code_from edge free)

  target_at : (edge : Edge) (to : ℕ) → IsFree parts marks edge → edge.to ≡ Some to → address_of stretches to ≡ Some edge.target
  target_at edge to free goal = address_of-place_of stretches to edge.target (sym free.to ∙ goal)

  -- an edge from the last word of a block is one between blocks, and it isn't marked
  record Crosses (edge : Edge) (one other : ℕ) : Type 0 where
    number : ℕ
    between : Edge
    there : slice_get (edges_of parts) number ≡ Some between
    from : between.from ≡ edge.from
    kind : between.kind ≡ edge.kind
    clear : IsUnmarked marks number
    joined : Joins (edges_of parts) number (part one) (part other)

  turned : (edge : Edge) (one other : ℕ) → Crosses edge one other → Crosses edge other one
  turned edge one other crosses = record {
    number = crosses.number;
    between = crosses.between;
    there = crosses.there;
    from = crosses.from;
    kind = crosses.kind;
    clear = crosses.clear;
    joined = (Joins-IsUndirected (edges_of parts)).turned crosses.number (part one) (part other) crosses.joined;
  }

  crosses_forth : (number from to : ℕ) (lead : Leading frees number from to) → is_last parts lead.edge.from ≡ true → Crosses lead.edge from to
  crosses_forth number from to lead last =
      let edge = lead.edge in
      let free = is_free number edge lead.there in
      let code = code_from edge free in
      let made = edge_for parts runs once free.taken edge.from edge.target code last free.way in
      let between : Edge = record { from = edge.from; kind = kind_by free.taken; source = made.source; to = block_at parts edge.target; target = edge.target } in
      let within = slice_get_within (edges_of parts) made.number between made.there in
      let in_marks = slice_get-get_or marks made.number false (omega (arith, within, count)) in
      let goal = has_block parts runs once edge.target (target_code parts marks words order below runs once cuts are edge free) in
      let first : made.source ≡ part from =
      sym (ap part (sym lead.source) ∙ part_is edge.source edge.from made.source free.at made.block) in
      let second : block_at parts edge.target ≡ Some (part to) =
      goal.1 ∙ ap (λ (n : ℕ). Some n) (sym (part_is to edge.target goal.0 (target_at edge to free lead.goal) goal.1)) in
      record {
        number = made.number;
        between = between;
        there = made.there;
        from = refl;
        kind = sym free.kind;
        clear = elim (cases_Bool (get_or marks made.number false)) [
          | inl marked ↦
              absurd (free.clear (record { number = made.number; edge = between; there = made.there; from = refl; kind = refl; marked = in_marks ∙ ap (λ (b : Bool). Some b) marked }))
          | inr clear ↦ in_marks ∙ ap (λ (b : Bool). Some b) clear
        ];
        joined = joins_forth (leads_by (edges_of parts) made.number (part from) (part to) between made.there first second);
      }

  -- each other edge goes on within a block
  record Inside (edge : Edge) (from to : ℕ) : Type 0 where
    fall : edge.kind ≡ kind_by false
    same : part from ≡ part to
    first : address_at from ≡ edge.from
    next : address_at to ≡ edge.from + 4
    round : edge.from % 4 ≡ 0

  only_falls : (edge : Edge) (taken : Bool) → way_among parts.code taken edge.from ≡ Some edge.target → is_last parts edge.from ≡ false → taken ≡ false
  only_falls edge true way last = let clash : true ≡ false = sym (taken_ends parts edge.from edge.target way) ∙ last in absurd (cc clash)
  only_falls edge false way last = refl

  inside_forth : (number from to : ℕ) (lead : Leading frees number from to) → is_last parts lead.edge.from ≡ false → Inside lead.edge from to
  inside_forth number from to lead last =
      let edge = lead.edge in
      let free = is_free number edge lead.there in
      let code = code_from edge free in
      let falls = only_falls edge free.taken free.way last in
      let way : way_among parts.code false edge.from ≡ Some edge.target = subst (λ (t : Bool). way_among parts.code t edge.from ≡ Some edge.target) falls free.way in
      let behind : edge.target ≡ edge.from + 4 = falls_behind parts edge.from edge.target (small_from edge free) way in
      let block = has_block parts runs once edge.from code in
      let next : block_at parts edge.target ≡ Some block.0 = ap (block_at parts) behind ∙ (goes_on parts runs once edge.from code last).1 block.0 block.1 in
      let at_goal = target_at edge to free lead.goal in
      record {
        fall = free.kind ∙ ap kind_by falls;
        same = ap part (sym lead.source) ∙ part_is edge.source edge.from block.0 free.at block.1 ∙ sym (part_is to edge.target block.0 at_goal next);
        first = ap address_at (sym lead.source) ∙ address_is edge.source edge.from free.at;
        next = address_is to edge.target at_goal ∙ behind;
        round = is_code-aligned stretches edge.from code;
      }

  -- the two sorts of edges
  record IsOfSort (last : Bool) (number : ℕ) : Type 0 where
    edge : Edge
    there : slice_get frees number ≡ Some edge
    sort : is_last parts edge.from ≡ last

  sorts_apart : (number : ℕ) → IsOfSort true number → IsOfSort false number → ⊥
  sorts_apart number one other =
      let same : one.edge ≡ other.edge = same_item frees number number one.edge other.edge refl one.there other.there in
      let clash : true ≡ false = sym one.sort ∙ ap (λ (e : Edge). is_last parts e.from) same ∙ other.sort in
      cc clash

  sort_of : (number : ℕ) → number < length frees → IsOfSort true number ⊎ IsOfSort false number
  sort_of number within =
      let none : Edge = record { from = 0; kind = kind_by false; source = 0; to = None; target = 0 } in
      let edge = get_or frees number none in
      let there = slice_get-get_or frees number none within in
      elim (cases_Bool (is_last parts edge.from)) [
        | inl last ↦ inl (record { edge = edge; there = there; sort = last })
        | inr inner ↦ inr (record { edge = edge; there = there; sort = inner })
      ]

  -- what an edge joins, by its sort
  crosses_lead : (number one other : ℕ) (edge : Edge) → slice_get frees number ≡ Some edge → is_last parts edge.from ≡ true → LeadsTo frees number one other → Crosses edge one other
  crosses_lead number one other edge there last leads =
      let lead = leading frees number one other leads in
      let same : lead.edge ≡ edge = same_item frees number number lead.edge edge refl lead.there there in
      subst (λ (e : Edge). Crosses e one other) same (crosses_forth number one other lead (ap (λ (e : Edge). is_last parts e.from) same ∙ last))

  crosses : (number one other : ℕ) (edge : Edge) → slice_get frees number ≡ Some edge → is_last parts edge.from ≡ true → Joins frees number one other → Crosses edge one other
  crosses number one other edge there last (joins_forth leads) = crosses_lead number one other edge there last leads
  crosses number one other edge there last (joins_back leads) = turned edge other one (crosses_lead number other one edge there last leads)

  inside_lead : (number one other : ℕ) (edge : Edge) → slice_get frees number ≡ Some edge → is_last parts edge.from ≡ false → LeadsTo frees number one other → Inside edge one other
  inside_lead number one other edge there inner leads =
      let lead = leading frees number one other leads in
      let same : lead.edge ≡ edge = same_item frees number number lead.edge edge refl lead.there there in
      subst (λ (e : Edge). Inside e one other) same (inside_forth number one other lead (ap (λ (e : Edge). is_last parts e.from) same ∙ inner))

  same_part : (number one other : ℕ) (edge : Edge) → slice_get frees number ≡ Some edge → is_last parts edge.from ≡ false → Joins frees number one other → part one ≡ part other
  same_part number one other edge there inner (joins_forth leads) = (inside_lead number one other edge there inner leads).same
  same_part number one other edge there inner (joins_back leads) = sym (inside_lead number other one edge there inner leads).same

  edge_of : (number one other : ℕ) → Joins frees number one other → (edge : Edge) × (slice_get frees number ≡ Some edge)
  edge_of number one other (joins_forth leads) = let lead = leading frees number one other leads in (lead.edge, lead.there)
  edge_of number one other (joins_back leads) = let lead = leading frees number other one leads in (lead.edge, lead.there)

  module _ (number from to : ℕ) (is : IsOfSort true number) (mine : Crosses is.edge from to) where
    abbrev may : ℕ → Type 0
    may other = IsUnmarked marks other × (other ≢ mine.number)

    apart : (other one two : ℕ) (edge : Edge) → slice_get frees other ≡ Some edge → (crossing : Crosses edge one two) → other ≢ number → crossing.number ≢ mine.number
    apart other one two edge there crossing differ = λ same.
        let equal : crossing.between ≡ mine.between = same_item (edges_of parts) crossing.number mine.number crossing.between mine.between same crossing.there mine.there in
        differ (one_edge parts marks words order below runs once cuts are other number edge is.edge there is.there
        (sym crossing.from ∙ ap (λ (e : Edge). e.from) equal ∙ mine.from) (sym crossing.kind ∙ ap (λ (e : Edge). e.kind) equal ∙ mine.kind))

    step : (other one two : ℕ) → other ≢ number → Joins frees other one two → Path (Joins (edges_of parts)) may (part one) (part two)
    step other one two differ joined =
        let edge = edge_of other one two joined in
        elim (cases_Bool (is_last parts edge.0.from)) [
          | inl last ↦
              let crossing = crosses other one two edge.0 edge.1 last joined in
              Path-edge crossing.number (part one) (part two) (crossing.clear, apart other one two edge.0 edge.1 crossing differ) crossing.joined
          | inr inner ↦ subst (Path (Joins (edges_of parts)) may (part one)) (same_part other one two edge.0 edge.1 inner joined) here
        ]

    closes_none : Path (Joins frees) (λ (other : ℕ). other ≢ number) from to → ⊥
    closes_none path =
        cuts.no_cycle mine.number mine.clear (record { from = part from; to = part to; ends = mine.joined; path = path_over_parts part step path })

  crossing_closes_none : (number : ℕ) → IsOfSort true number → Closes (Joins frees) (λ (other : ℕ). other ≢ number) number → ⊥
  crossing_closes_none number is closes =
      closes_none number closes.from closes.to is (crosses number closes.from closes.to is.edge is.there is.sort closes.ends) closes.path

  module _ (number : ℕ) (is : IsOfSort false number) where
    abbrev others : ℕ → Type 0
    others other = IsOfSort false other × (other ≢ number)

    -- only the edge itself leads from its word to the next
    low_step : (other one two : ℕ) → others other → Joins frees other one two → address_at one ≤ is.edge.from → address_at two ≤ is.edge.from
    low_step other one two is_other (joins_forth leads) low =
        let step = inside_lead other one two is_other.0.edge is_other.0.there is_other.0.sort leads in
        let mine = is_code-aligned stretches is.edge.from (code_from is.edge (is_free number is.edge is.there)) in
        let first = step.first in
        let next = step.next in
        let round = step.round in
        elim (cases_eq is_other.0.edge.from is.edge.from) [
          | inl same ↦
              absurd (is_other.1 (one_edge parts marks words order below runs once cuts are other number is_other.0.edge is.edge is_other.0.there is.there same
              (step.fall ∙ sym (own_fall is.edge is.there is.sort))))
          | inr differ ↦ omega (arith, first, next, round, mine, low, differ)
        ]
      where
        own_fall : (edge : Edge) → slice_get frees number ≡ Some edge → is_last parts edge.from ≡ false → edge.kind ≡ kind_by false
        own_fall edge there inner =
            let free = is_free number edge there in free.kind ∙ ap kind_by (only_falls edge free.taken free.way inner)
    low_step other one two is_other (joins_back leads) low =
        let step = inside_lead other two one is_other.0.edge is_other.0.there is_other.0.sort leads in
        let first = step.first in
        let next = step.next in
        omega (arith, first, next, low)

    stays_low : {one two : ℕ} → Path (Joins frees) others one two → address_at one ≤ is.edge.from → address_at two ≤ is.edge.from
    stays_low here low = low
    stays_low (over {from} {mid} edge is_other joined rest) low = stays_low rest (low_step edge from mid is_other joined low)

    leads_high : (from to : ℕ) → LeadsTo frees number from to → Path (Joins frees) others from to → ⊥
    leads_high from to leads path =
        let mine = inside_lead number from to is.edge is.there is.sort leads in
        let first = mine.first in
        let next = mine.next in
        let low = stays_low path (omega (arith, first)) in
        omega (arith, next, low)

    inner_closes_none : (from to : ℕ) → Joins frees number from to → Path (Joins frees) others from to → ⊥
    inner_closes_none from to (joins_forth leads) path = leads_high from to leads path
    inner_closes_none from to (joins_back leads) path = leads_high to from leads (Path-turned (Joins-IsUndirected frees) path)

  pub own_forest : HaveNoCycle (free_edges stretches words)
  own_forest =
      HasNoCycle-within (λ number less. among_numbers (length frees) number less)
      (two_sorts (Joins-IsUndirected frees) (IsOfSort true) (IsOfSort false) sorts_apart crossing_closes_none
      (λ number is closes. inner_closes_none number is closes.from closes.to closes.ends closes.path) (numbers_below (length frees)) (numbers_once (length frees))
      (λ number among. sort_of number (numbers_among (length frees) number among)))

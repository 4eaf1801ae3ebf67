-- The arcs of a schema are those of a forest.
use Rattle.std.proofs.Common.{◌≡◌, ◌≢◌, ◌⊎◌, inl, inr, ℕ, zero, suc, ◌+◌, ◌<◌, Bool, true, false, cond, List, [], ◌∷◌, length, Option, Some, None, refl, sym, ap, subst, ◌∙◌, arith}
use Rattle.std.specs.Prelude.{slice_get, flat_map}
use Rattle.std.specs.List.{cons_option, range_with_len}
use Rattle.std.specs.Option.{option_map, option_map_or}
use Rattle.std.proofs.lemmas.List.Sums.{sum-map}
use Rattle.graph_paths.specs.Paths.{Path, here, over}
use Rattle.graph_paths.specs.Forests.{HasNoCycle, IsAmong}
use Rattle.graph_paths.proofs.LawsOfMembers.{among_either, among_place}
use Rattle.rv_code.specs.declared.class.Class.{Class}
use Rattle.rv_code.specs.declared.extent.Extent.{Extent}
use Rattle.rv_code.specs.Places.{address_of, place_of}
use Rattle.rv_code.proofs.LawsOfLookUps.{place_of-below}
use Rattle.rv_code.proofs.LawsOfPlaces.{length-code_addresses}
use Rattle.flow_graph.specs.declared.edge.Edge.{Edge}
use Rattle.flow_graph.specs.Edges.{kind_by, is_taken_kind}
use Rattle.flow_graph.proofs.LawsOfEdges.{taken_again}
use Rattle.flow_tree.specs.WitnessEdges.{Joins, joins_forth, joins_back, LeadsTo}
use Rattle.regen_path.specs.declared.arcs.Arc.{Arc}
use Rattle.regen_path.specs.Walks.{ArcJoins}
use Rattle.regen_path.specs.Walks as walks
use Rattle.schema_form.specs.declared.word.SchemaWord.{SchemaWord}
use Rattle.schema_form.specs.Flags.{class_in, is_set}
use Rattle.schema_form.specs.FreeEdges.{free_edge, free_edges_as, free_edges_of, free_edges_at, free_edges, HaveNoCycle}
use Rattle.schema_form.specs.Rules.{way_of, witness_mark}
use Rattle.schema_form.specs.SchemaParts.{SchemaParts}
use Rattle.schema_form.specs.Valid.{IsSchema}
use Rattle.regen_walk.specs.FreeArcs.{kind_number, quiet_arc, quiet_arcs_among, quiet_arcs, word_goes_quietly}
use Rattle.regen_walk.specs.Inner.Forest.{AreForestArcs}

among_one : {X : Type 0} (first : Option X) (rest : List X) (x : X) → IsAmong (cons_option first rest) x → (first ≡ Some x) ⊎ IsAmong rest x
among_one None rest x is = inr is
among_one (Some y) rest x (inl is) = inl (ap (λ z. Some z) (sym is))
among_one (Some y) rest x (inr is) = inr is

-- what is among rows is in one of them
among_rows : {X : Type 0} (f : ℕ → List X) (from count : ℕ) (x : X) → IsAmong (flat_map f (range_with_len from count)) x → (k : ℕ) × (k < from + count) × IsAmong (f k) x
among_rows f from zero x is = absurd is
among_rows f from (suc count) x is = elim (among_either (f from) (flat_map f (range_with_len (from + 1) count)) x is) [
  | inl front ↦ (from, omega arith, front)
  | inr behind ↦ let (k, less, is_in) = among_rows f (from + 1) count x behind in (k, omega (arith, less), is_in)
]

place_within : {X : Type 0} (xs : List X) (k : ℕ) (x : X) → slice_get xs k ≡ Some x → k < length xs
place_within [] k x is = absurd (cc is)
place_within (y ∷ xs) zero x is = omega arith
place_within (y ∷ xs) (suc k) x is = let rest = place_within xs k x is in omega (arith, rest)

-- what an edge is of
pub record EdgeOf (stretches : List Extent) (words : List SchemaWord) (edge : Edge) : Type 0 where
  pub place : ℕ
  pub word : SchemaWord
  pub address : ℕ
  pub class : Class
  pub taken : Bool
  pub at : slice_get words place ≡ Some word
  pub stands : address_of stretches place ≡ Some address
  pub named : class_in word.flags ≡ Some class
  pub is : free_edge stretches taken class word place address ≡ Some edge

module _ (stretches : List Extent) (words : List SchemaWord) (edge : Edge) where
  by_class : (place address : ℕ) (word : SchemaWord) (class : Option Class) → slice_get words place ≡ Some word → address_of stretches place ≡ Some address → class_in word.flags ≡ class
      → IsAmong (option_map_or (free_edges_as stretches word place address) class []) edge → EdgeOf stretches words edge
  by_class place address word None at stands named is = absurd is
  by_class place address word (Some class) at stands named is =
      elim (among_one (free_edge stretches false class word place address) (cons_option (free_edge stretches true class word place address) []) edge is) [
        | inl fall ↦ record { place = place; word = word; address = address; class = class; taken = false; at = at; stands = stands; named = named; is = fall }
        | inr behind ↦ elim (among_one (free_edge stretches true class word place address) [] edge behind) [
          | inl taken ↦ record { place = place; word = word; address = address; class = class; taken = true; at = at; stands = stands; named = named; is = taken }
          | inr none ↦ absurd none
        ]
      ]

  by_address : (place : ℕ) (word : SchemaWord) (address : Option ℕ) → slice_get words place ≡ Some word → address_of stretches place ≡ address
      → IsAmong (option_map_or (free_edges_of stretches place word) address []) edge → EdgeOf stretches words edge
  by_address place word None at stands is = absurd is
  by_address place word (Some address) at stands is = by_class place address word (class_in word.flags) at stands refl is

  by_word : (place : ℕ) (word : Option SchemaWord) → slice_get words place ≡ word
      → IsAmong (option_map_or (λ (found : SchemaWord). option_map_or (free_edges_of stretches place found) (address_of stretches place) []) word []) edge → EdgeOf stretches words edge
  by_word place None at is = absurd is
  by_word place (Some word) at is = by_address place word (address_of stretches place) at refl is

  pub edge_of : IsAmong (free_edges stretches words) edge → EdgeOf stretches words edge
  edge_of is = let (place, less, among) = among_rows (free_edges_at stretches words) 0 (length words) edge is in by_word place (slice_get words place) refl among

-- the parts of a free edge
pub record EdgeParts (stretches : List Extent) (edge : Edge) (taken : Bool) (place : ℕ) : Type 0 where
  pub kind : edge.kind ≡ kind_by taken
  pub source : edge.source ≡ place
  pub to : edge.to ≡ place_of stretches edge.target

parts_by : (stretches : List Extent) (taken : Bool) (place address : ℕ) (marked : Bool) (way : Option ℕ) (edge : Edge)
    → cond marked None (option_map (λ (target : ℕ). record { from = address; kind = kind_by taken; source = place; to = place_of stretches target; target = target }) way) ≡ Some edge
    → EdgeParts stretches edge taken place
parts_by stretches taken place address true way edge is = absurd (cc is)
parts_by stretches taken place address false None edge is = absurd (cc is)
parts_by stretches taken place address false (Some target) edge is =
    let made : Edge = record { from = address; kind = kind_by taken; source = place; to = place_of stretches target; target = target } in
    let same : made ≡ edge = cc is in
    subst (λ (e : Edge). EdgeParts stretches e taken place) same (record { kind = refl; source = refl; to = refl })

-- the arc of an edge
pub record ArcOf (edge : Edge) (arc : Arc) : Type 0 where
  pub from : arc.from ≡ edge.source
  pub to : edge.to ≡ Some arc.to
  pub kind : arc.kind ≡ kind_number (is_taken_kind edge.kind)

arc_by : (edge : Edge) (quiet : Bool) (to : Option ℕ) (arc : Arc) → edge.to ≡ to
    → cond quiet (option_map (λ (t : ℕ). record { from = edge.source; to = t; kind = kind_number (is_taken_kind edge.kind) }) to) None ≡ Some arc → ArcOf edge arc
arc_by edge false to arc is made = absurd (cc made)
arc_by edge true None arc is made = absurd (cc made)
arc_by edge true (Some t) arc is made =
    let first : Arc = record { from = edge.source; to = t; kind = kind_number (is_taken_kind edge.kind) } in
    let same : first ≡ arc = cc made in
    subst (ArcOf edge) same (record { from = refl; to = is; kind = refl })

pub arc_of : (words : List SchemaWord) (edge : Edge) (arc : Arc) → quiet_arc words edge ≡ Some arc → ArcOf edge arc
arc_of words edge arc is = arc_by edge (option_map_or (word_goes_quietly (is_taken_kind edge.kind)) (slice_get words edge.source) false) edge.to arc refl is

-- which edge an arc is of
pub record NumberOf (words : List SchemaWord) (edges : List Edge) (arc : Arc) : Type 0 where
  pub number : ℕ
  pub edge : Edge
  pub at : slice_get edges number ≡ Some edge
  pub is : quiet_arc words edge ≡ Some arc

pub number_of_arc : (words : List SchemaWord) (edges : List Edge) (arc : Arc) → IsAmong (quiet_arcs_among words edges) arc → NumberOf words edges arc
number_of_arc words [] arc is = absurd is
number_of_arc words (edge ∷ edges) arc is = elim (among_one (quiet_arc words edge) (quiet_arcs_among words edges) arc is) [
  | inl first ↦ record { number = 0; edge = edge; at = refl; is = first }
  | inr behind ↦ let rest = number_of_arc words edges arc behind in record { number = suc rest.number; edge = rest.edge; at = rest.at; is = rest.is }
]

pub kind_same : (one other : Bool) → kind_number one ≡ kind_number other → one ≡ other
kind_same true true is = refl
kind_same false false is = refl
kind_same true false is = absurd (omega (arith, is))
kind_same false true is = absurd (omega (arith, is))

kind_low : (taken : Bool) → kind_number taken < 2
kind_low true = omega arith
kind_low false = omega arith

module _ (words : List SchemaWord) (edges : List Edge) where
  leads : (arc : Arc) (n : NumberOf words edges arc) → LeadsTo edges n.number arc.from arc.to
  leads arc n =
      let a = arc_of words n.edge arc n.is in
      ap (option_map (λ (edge : Edge). (edge.source, edge.to))) n.at
      ∙ ap (λ (to : Option ℕ). Some (n.edge.source, to)) a.to
      ∙ ap (λ (from : ℕ). Some (from, Some arc.to)) (sym a.from)

  joins : (arc : Arc) (n : NumberOf words edges arc) (one other : ℕ) → ArcJoins arc one other → Joins edges n.number one other
  joins arc n one other (walks.forth is) = joins_forth (subst (λ (to : ℕ). LeadsTo edges n.number one to) is.1 (subst (λ (from : ℕ). LeadsTo edges n.number from arc.to) is.0 (leads arc n)))
  joins arc n one other (walks.back is) = joins_back (subst (λ (to : ℕ). LeadsTo edges n.number other to) is.1 (subst (λ (from : ℕ). LeadsTo edges n.number from arc.to) is.0 (leads arc n)))

  -- arcs of edges of the same number are the same
  same_arc : (one other : Arc) (n : NumberOf words edges one) (m : NumberOf words edges other) → m.number ≡ n.number → other ≡ one
  same_arc one other n m is =
      let at : slice_get edges n.number ≡ Some m.edge = ap (slice_get edges) (sym is) ∙ m.at in
      let edge : m.edge ≡ n.edge = (let both : Some m.edge ≡ Some n.edge = sym at ∙ n.at in cc) in
      let both : Some other ≡ Some one = sym m.is ∙ ap (quiet_arc words) edge ∙ n.is in cc

  path : (arc : Arc) (n : NumberOf words edges arc) (one other : ℕ) → Path ArcJoins (λ a. IsAmong (quiet_arcs_among words edges) a × (a ≢ arc)) one other
      → Path (Joins edges) (λ number. (number < length edges) × (number ≢ n.number)) one other
  path arc n one other here = here
  path arc n one other (over {mid = mid} a allowed joined rest) =
      let m = number_of_arc words edges a allowed.0 in
      over {mid = mid} m.number (place_within edges m.number m.edge m.at, λ is. allowed.1 (same_arc arc a n m is)) (joins a m one mid joined) (path arc n mid other rest)

  pub arcs_forest : HaveNoCycle edges → HasNoCycle ArcJoins (IsAmong (quiet_arcs_among words edges))
  arcs_forest forest arc is closes =
      let n = number_of_arc words edges arc is in
      forest n.number (place_within edges n.number n.edge n.at) (record {
        from = closes.from;
        to = closes.to;
        ends = joins arc n closes.from closes.to closes.ends;
        path = path arc n closes.from closes.to closes.path;
      })

module _ (parts : SchemaParts) (valid : IsSchema parts) where
  abbrev edges : List Edge
  edges = free_edges parts.stretches parts.words

  -- an arc with what its edge is of
  pub record Known (arc : Arc) : Type 0 where
    pub n : NumberOf parts.words (free_edges parts.stretches parts.words) arc
    pub e : EdgeOf parts.stretches parts.words n.edge
    pub p : EdgeParts parts.stretches n.edge e.taken e.place
    pub a : ArcOf n.edge arc

  pub known : (arc : Arc) → IsAmong (quiet_arcs parts) arc → Known arc
  known arc is =
      let n = number_of_arc parts.words edges arc is in
      let e = edge_of parts.stretches parts.words n.edge (among_place edges n.number n.edge n.at) in
      record {
        n = n;
        e = e;
        p = parts_by parts.stretches e.taken e.place e.address (is_set (witness_mark e.taken) e.word.flags) (way_of e.taken e.class e.word.raw e.address) n.edge e.is;
        a = arc_of parts.words n.edge arc n.is;
      }

  ends : (arc : Arc) → IsAmong (quiet_arcs parts) arc → (arc.from < length parts.words) × (arc.to < length parts.words)
  ends arc is =
      let k = known arc is in
      let low = place_within parts.words k.e.place k.e.word k.e.at in
      let from = k.a.from ∙ k.p.source in
      let to = place_of-below parts.stretches arc.to k.n.edge.target (sym k.p.to ∙ k.a.to) in
      let count = length-code_addresses parts.stretches ∙ sum-map (λ (stretch : Extent). stretch.count) parts.stretches in
      (omega (arith, low, from), omega (arith, to, count, valid.words.count))

  kinds : (arc : Arc) → IsAmong (quiet_arcs parts) arc → arc.kind < 2
  kinds arc is = let k = known arc is in let low = kind_low (is_taken_kind k.n.edge.kind) in omega (arith, low, k.a.kind)

  alone : (one other : Arc) → IsAmong (quiet_arcs parts) one → IsAmong (quiet_arcs parts) other → one.from ≡ other.from → one.kind ≡ other.kind → one ≡ other
  alone one other is is_other from kind =
      let k = known one is in
      let m = known other is_other in
      let place : k.e.place ≡ m.e.place = sym (k.a.from ∙ k.p.source) ∙ from ∙ m.a.from ∙ m.p.source in
      let taken : k.e.taken ≡ m.e.taken =
      sym (ap is_taken_kind k.p.kind ∙ taken_again k.e.taken)
      ∙ kind_same (is_taken_kind k.n.edge.kind) (is_taken_kind m.n.edge.kind) (sym k.a.kind ∙ kind ∙ m.a.kind)
      ∙ ap is_taken_kind m.p.kind ∙ taken_again m.e.taken
      in
      let word : k.e.word ≡ m.e.word = (let both : Some k.e.word ≡ Some m.e.word = sym k.e.at ∙ ap (slice_get parts.words) place ∙ m.e.at in cc) in
      let address : k.e.address ≡ m.e.address = (let both : Some k.e.address ≡ Some m.e.address = sym k.e.stands ∙ ap (address_of parts.stretches) place ∙ m.e.stands in cc) in
      let class : k.e.class ≡ m.e.class =
      (let both : Some k.e.class ≡ Some m.e.class = sym k.e.named ∙ ap (λ (w : SchemaWord). class_in w.flags) word ∙ m.e.named in cc)
      in
      let edge : k.n.edge ≡ m.n.edge =
      (let both : Some k.n.edge ≡ Some m.n.edge =
      sym k.e.is
      ∙ ap (λ (t : Bool). free_edge parts.stretches t k.e.class k.e.word k.e.place k.e.address) taken
      ∙ ap (λ (c : Class). free_edge parts.stretches m.e.taken c k.e.word k.e.place k.e.address) class
      ∙ ap (λ (w : SchemaWord). free_edge parts.stretches m.e.taken m.e.class w k.e.place k.e.address) word
      ∙ ap (λ (p : ℕ). free_edge parts.stretches m.e.taken m.e.class m.e.word p k.e.address) place
      ∙ ap (free_edge parts.stretches m.e.taken m.e.class m.e.word m.e.place) address
      ∙ m.e.is in cc)
      in
      let both : Some one ≡ Some other = sym k.n.is ∙ ap (quiet_arc parts.words) edge ∙ m.n.is in cc

  forest_arcs : AreForestArcs (length parts.words) (quiet_arcs parts)
  forest_arcs = record { ends = ends; kinds = kinds; alone = alone; forest = arcs_forest parts.words edges valid.forest }

  pub forest_of : (arcs : List Arc) → arcs ≡ quiet_arcs parts → AreForestArcs (length parts.words) arcs
  forest_of arcs is = subst (AreForestArcs (length parts.words)) (sym is) forest_arcs

-- Moves without a record follow the arcs.
use Rattle.std.proofs.Common.{◌≡◌, inl, inr, ℕ, zero, suc, ◌+◌, ◌<◌, ◌≤◌, Bool, true, false, cond, List, [], ◌∷◌, length, Option, Some, None, sym, ap, subst, ◌∙◌, arith}
use Rattle.std.specs.Prelude.{slice_get, flat_map}
use Rattle.std.specs.List.{cons_option, range_with_len}
use Rattle.std.specs.Option.{option_map, option_map_or}
use Rattle.std.proofs.lemmas.Bool.{cases_eq}
use Rattle.graph_paths.specs.Forests.{IsAmong}
use Rattle.graph_paths.proofs.LawsOfMembers.{among_front, among_end}
use Rattle.rv_code.specs.declared.class.Class.{Class}
use Rattle.rv_code.specs.Places.{address_of, place_of}
use Rattle.rv_code.proofs.LawsOfLookUps.{address_of-place_of}
use Rattle.flow_graph.specs.declared.edge.Edge.{Edge}
use Rattle.flow_graph.specs.Edges.{kind_by}
use Rattle.flow_graph.proofs.LawsOfEdges.{taken_again}
use Rattle.regen_path.specs.declared.arcs.Arc.{Arc}
use Rattle.schema_form.specs.declared.word.SchemaWord.{SchemaWord}
use Rattle.schema_form.specs.FreeEdges.{free_edge, free_edges, free_edges_as, free_edges_at, free_edges_of}
use Rattle.schema_form.specs.Rules.{way_of}
use Rattle.schema_form.specs.SchemaParts.{SchemaParts}
use Rattle.schema_form.specs.Valid.{IsSchema}
use Rattle.regen_walk.specs.declared.met.Met.{Met}
use Rattle.regen_walk.specs.declared.met.Spot.{Spot}
use Rattle.regen_walk.specs.FreeArcs.{goes_quietly, kind_number, quiet_arc, quiet_arcs, quiet_arcs_among, word_goes_quietly}
use Rattle.regen_walk.specs.Inner.Met.{IsMet, IsSpot}
use Rattle.regen_walk.specs.Moves.{is_kept}
use Rattle.regen_walk.proofs.Passing.{QuietStep, word_there}
use Rattle.regen_walk.proofs.WordsMet.{place_within}

among_more : {X : Type 0} (first : Option X) (rest : List X) (x : X) → IsAmong rest x → IsAmong (cons_option first rest) x
among_more None rest x is = is
among_more (Some y) rest x is = inr is

among_first : {X : Type 0} (first : Option X) (rest : List X) (x : X) → first ≡ Some x → IsAmong (cons_option first rest) x
among_first None rest x is = absurd (cc is)
among_first (Some y) rest x is = inl (let same : y ≡ x = cc is in sym same)

in_row : {X : Type 0} (f : ℕ → List X) (k from count : ℕ) (x : X) → from ≤ k → k < from + count → IsAmong (f k) x → IsAmong (flat_map f (range_with_len from count)) x
in_row f k from zero x low high is = absurd (omega (arith, low, high))
in_row f k from (suc count) x low high is = elim (cases_eq k from) [
  | inl same ↦ among_front (f from) (flat_map f (range_with_len (from + 1) count)) x (subst (λ (n : ℕ). IsAmong (f n) x) same is)
  | inr apart ↦ among_end (f from) (flat_map f (range_with_len (from + 1) count)) x (in_row f k (from + 1) count x (omega (arith, low, apart)) (omega (arith, high)) is)
]

among_quiet : (words : List SchemaWord) (edges : List Edge) (edge : Edge) (arc : Arc) → IsAmong edges edge → quiet_arc words edge ≡ Some arc → IsAmong (quiet_arcs_among words edges) arc
among_quiet words [] edge arc among is = absurd among
among_quiet words (first ∷ edges) edge arc (inl same) is = among_first (quiet_arc words first) (quiet_arcs_among words edges) arc (ap (quiet_arc words) (sym same) ∙ is)
among_quiet words (first ∷ edges) edge arc (inr behind) is = among_more (quiet_arc words first) (quiet_arcs_among words edges) arc (among_quiet words edges edge arc behind is)

module _ (parts : SchemaParts) (valid : IsSchema parts) (spot : Spot) (there : IsSpot parts spot) (met : Met) (is : IsMet parts spot.address met) where
  abbrev edge_to : (taken : Bool) (target : ℕ) → Edge
  edge_to taken target = record { from = spot.address; kind = kind_by taken; source = spot.place; to = place_of parts.stretches target; target = target }

  abbrev arc_to : (taken : Bool) (place : ℕ) → Arc
  arc_to taken place = record { from = spot.place; to = place; kind = kind_number taken }

  edge_free : (taken : Bool) (place : ℕ) (q : QuietStep parts spot.address met taken place)
      → free_edge parts.stretches taken met.class met.word spot.place spot.address ≡ Some (edge_to taken q.target)
  edge_free taken place q =
      ap (λ b. cond b None (option_map (edge_to taken) (way_of taken met.class met.word.raw spot.address))) q.free ∙ ap (option_map (edge_to taken)) q.way

  edges_here : free_edges_at parts.stretches parts.words spot.place ≡ free_edges_as parts.stretches met.word spot.place spot.address met.class
  edges_here =
      ap (λ (o : Option SchemaWord). option_map_or (λ (word : SchemaWord). option_map_or (free_edges_of parts.stretches spot.place word) (address_of parts.stretches spot.place) []) o []) (word_there parts valid spot there met is)
      ∙ ap (λ (o : Option ℕ). option_map_or (free_edges_of parts.stretches spot.place met.word) o []) (address_of-place_of parts.stretches spot.place spot.address there)
      ∙ ap (λ (o : Option Class). option_map_or (free_edges_as parts.stretches met.word spot.place spot.address) o []) is.named

  among_ways : (taken : Bool) (edge : Edge) → free_edge parts.stretches taken met.class met.word spot.place spot.address ≡ Some edge
      → IsAmong (free_edges_as parts.stretches met.word spot.place spot.address met.class) edge
  among_ways false edge made =
      among_first (free_edge parts.stretches false met.class met.word spot.place spot.address) (cons_option (free_edge parts.stretches true met.class met.word spot.place spot.address) []) edge made
  among_ways true edge made =
      among_more (free_edge parts.stretches false met.class met.word spot.place spot.address) (cons_option (free_edge parts.stretches true met.class met.word spot.place spot.address) []) edge
      (among_first (free_edge parts.stretches true met.class met.word spot.place spot.address) [] edge made)

  edge_among : (taken : Bool) (place : ℕ) (q : QuietStep parts spot.address met taken place) → IsAmong (free_edges parts.stretches parts.words) (edge_to taken q.target)
  edge_among taken place q =
      let within = place_within parts valid spot there in
      in_row (free_edges_at parts.stretches parts.words) spot.place 0 (length parts.words) (edge_to taken q.target) (omega arith) (omega (arith, within))
      (subst (λ (list : List Edge). IsAmong list (edge_to taken q.target)) (sym edges_here) (among_ways taken (edge_to taken q.target) (edge_free taken place q)))

  arc_made : (taken : Bool) (place : ℕ) (q : QuietStep parts spot.address met taken place) → quiet_arc parts.words (edge_to taken q.target) ≡ Some (arc_to taken place)
  arc_made taken place q =
      ap (λ (t : Bool). cond (option_map_or (word_goes_quietly t) (slice_get parts.words spot.place) false) (option_map (arc_to t) (place_of parts.stretches q.target)) None) (taken_again taken)
      ∙ ap (λ (o : Option SchemaWord). cond (option_map_or (word_goes_quietly taken) o false) (option_map (arc_to taken) (place_of parts.stretches q.target)) None) (word_there parts valid spot there met is)
      ∙ ap (λ (o : Option Class). cond (option_map_or (goes_quietly (is_kept met.word) taken) o false) (option_map (arc_to taken) (place_of parts.stretches q.target)) None) is.named
      ∙ ap (λ b. cond b (option_map (arc_to taken) (place_of parts.stretches q.target)) None) q.quiet
      ∙ ap (option_map (arc_to taken)) q.to

  -- two moves without a record go along an arc
  pub is_arc : (taken : Bool) (place : ℕ) → QuietStep parts spot.address met taken place → IsAmong (quiet_arcs parts) (record { from = spot.place; to = place; kind = kind_number taken })
  is_arc taken place q = among_quiet parts.words (free_edges parts.stretches parts.words) (edge_to taken q.target) (arc_to taken place) (edge_among taken place q) (arc_made taken place q)

-- The arcs of edges, one after the other.
use Rattle.std.proofs.Common.{◌≡◌, ℕ, ◌+◌, ◌<◌, ◌≤◌, List, [], ◌∷◌, ◌++◌, length, take, get_or, Option, Some, None, refl, sym, ap, ◌∙◌}
use Rattle.std.specs.List.{cons_option}
use Rattle.std.proofs.lemmas.List.{append-nil, take_more, take_all}
use Rattle.flow_graph.specs.declared.edge.Edge.{Edge}
use Rattle.regen_path.specs.declared.arcs.Arc.{Arc}
use Rattle.schema_form.specs.declared.word.SchemaWord.{SchemaWord}
use Rattle.regen_walk.specs.FreeArcs.{quiet_arc, quiet_arcs_among}

cons_before : (first : Option Arc) (one two : List Arc) → cons_option first (one ++ two) ≡ cons_option first one ++ two
cons_before None one two = refl
cons_before (Some arc) one two = refl

module _ (words : List SchemaWord) where
  among_append : (edges more : List Edge) → quiet_arcs_among words (edges ++ more) ≡ quiet_arcs_among words edges ++ quiet_arcs_among words more
  among_append [] more = refl
  among_append (edge ∷ edges) more =
      ap (cons_option (quiet_arc words edge)) (among_append edges more) ∙ cons_before (quiet_arc words edge) (quiet_arcs_among words edges) (quiet_arcs_among words more)

  module _ (edges : List Edge) (count : ℕ) (edge : Edge) (within : count < length edges) where
    one_more : quiet_arcs_among words (take (count + 1) edges) ≡ quiet_arcs_among words (take count edges) ++ cons_option (quiet_arc words (get_or edges count edge)) []
    one_more = ap (quiet_arcs_among words) (take_more edges count edge within) ∙ among_append (take count edges) (get_or edges count edge ∷ [])

    -- an edge has an arc, which is added
    pub arc_more : (arcs : List Arc) (arc : Arc) → arcs ≡ quiet_arcs_among words (take count edges) → quiet_arc words (get_or edges count edge) ≡ Some arc
        → arcs ++ arc ∷ [] ≡ quiet_arcs_among words (take (count + 1) edges)
    arc_more arcs arc so_far is =
        ap (λ list. list ++ arc ∷ []) so_far
        ∙ ap (λ (o : Option Arc). quiet_arcs_among words (take count edges) ++ cons_option o []) (sym is)
        ∙ sym one_more

    -- or it has none
    pub arc_less : (arcs : List Arc) → arcs ≡ quiet_arcs_among words (take count edges) → quiet_arc words (get_or edges count edge) ≡ None → arcs ≡ quiet_arcs_among words (take (count + 1) edges)
    arc_less arcs so_far is =
        so_far
        ∙ sym (append-nil (quiet_arcs_among words (take count edges)))
        ∙ ap (λ (o : Option Arc). quiet_arcs_among words (take count edges) ++ cons_option o []) (sym is)
        ∙ sym one_more

  pub all_arcs : (edges : List Edge) (count : ℕ) (arcs : List Arc) → length edges ≤ count → arcs ≡ quiet_arcs_among words (take count edges) → arcs ≡ quiet_arcs_among words edges
  all_arcs edges count arcs all so_far = so_far ∙ ap (quiet_arcs_among words) (take_all count edges all)

pub none_from : {X : Type 0} (o : Option X) → ((x : X) → o ≡ Some x → ⊥) → o ≡ None
none_from None never = refl
none_from (Some x) never = absurd (never x refl)

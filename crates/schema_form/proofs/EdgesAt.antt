-- The edges of the word at a place.
use Rattle.std.proofs.Common.{◌≡◌, ℕ, ◌≤◌, List, [], ◌++◌, length, Some, Option, sym, ap, ◌∙◌}
use Rattle.std.specs.Prelude.{slice_get}
use Rattle.std.specs.Option.{option_map_or}
use Rattle.std.proofs.lemmas.List.{append-nil}
use Rattle.std.proofs.lemmas.Option.{slice_get_past}
use Rattle.rv_code.specs.declared.extent.Extent.{Extent}
use Rattle.rv_code.specs.Places.{address_of}
use Rattle.flow_graph.specs.declared.edge.Edge.{Edge}
use Rattle.schema_form.specs.declared.word.SchemaWord.{SchemaWord}
use Rattle.schema_form.specs.FreeEdges.{free_edges_of, free_edges_at}

module _ (stretches : List Extent) (words : List SchemaWord) (place : ℕ) where
  -- nothing is added where no word stands
  pub none_past : (edges : List Edge) → length words ≤ place → edges ≡ edges ++ free_edges_at stretches words place
  none_past edges past =
      sym (ap (λ (word : Option SchemaWord). edges ++ option_map_or (λ (found : SchemaWord). option_map_or (free_edges_of stretches place found) (address_of stretches place) []) word [])
      (slice_get_past words place past) ∙ append-nil edges)

  -- the edges of the word that stands there
  pub edges_there : (word : SchemaWord) (address : ℕ) → slice_get words place ≡ Some word → address_of stretches place ≡ Some address
      → free_edges_of stretches place word address ≡ free_edges_at stretches words place
  edges_there word address there at =
      sym (ap (λ (o : Option SchemaWord). option_map_or (λ (found : SchemaWord). option_map_or (free_edges_of stretches place found) (address_of stretches place) []) o []) there
      ∙ ap (λ (o : Option ℕ). option_map_or (free_edges_of stretches place word) o []) at)

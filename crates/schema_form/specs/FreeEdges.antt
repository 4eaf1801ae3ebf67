-- The edges between code words that aren't recorded, and whether they have a cycle. Places of code words are what they join. This
-- project's own.
use Rattle.std.specs.Prelude.{◌≡◌, ℕ, ◌+◌, ◌<◌, Bool, true, false, List, [], Option, Some, None, length, flat_map, slice_get, if◌then◌else◌}
use Rattle.std.specs.List.{cons_option, range_with_len}
use Rattle.std.specs.Option.{option_map, option_map_or}
use Rattle.rv_code.specs.declared.class.Class.{Class}
use Rattle.rv_code.specs.declared.extent.Extent.{Extent}
use Rattle.rv_code.specs.Places.{address_of, place_of}
use Rattle.flow_graph.specs.declared.edge.Edge.{Edge}
use Rattle.flow_graph.specs.Edges.{kind_by, is_taken_kind}
use Rattle.graph_paths.specs.Paths.{Closes}
use Rattle.graph_paths.specs.Forests.{HasNoCycle}
use Rattle.flow_tree.specs.WitnessEdges.{Joins}
use Rattle.schema_form.specs.declared.word.SchemaWord.{SchemaWord}
use Rattle.schema_form.specs.Flags.{class_in, is_set}
use Rattle.schema_form.specs.Rules.{witness_mark, way_of}

-- the edge of one way from a word at a place and address, if the word has that way and it has no mark of a witness
abbrev pub free_edge : List Extent → (taken : Bool) → Class → SchemaWord → (place address : ℕ) → Option Edge
free_edge stretches taken class word place address =
    if is_set (witness_mark taken) word.flags then None
    else option_map
    (λ (target : ℕ). record { from = address; kind = kind_by taken; source = place; to = place_of stretches target; target = target })
    (way_of taken class word.raw address)

-- the edges of a word of the class, Fall first
abbrev pub free_edges_as : List Extent → SchemaWord → (place address : ℕ) → Class → List Edge
free_edges_as stretches word place address class =
    cons_option (free_edge stretches false class word place address) (cons_option (free_edge stretches true class word place address) [])

-- those of the word at an address
abbrev pub free_edges_of : List Extent → (place : ℕ) → SchemaWord → (address : ℕ) → List Edge
free_edges_of stretches place word address = option_map_or (free_edges_as stretches word place address) (class_in word.flags) []

-- those of the word at a place, if there is one
abbrev pub free_edges_at : List Extent → List SchemaWord → (place : ℕ) → List Edge
free_edges_at stretches words place =
    option_map_or (λ (word : SchemaWord). option_map_or (free_edges_of stretches place word) (address_of stretches place) []) (slice_get words place) []

-- all of them, in the order of words
abbrev pub free_edges : List Extent → List SchemaWord → List Edge
free_edges stretches words = flat_map (free_edges_at stretches words) (range_with_len 0 (length words))

-- the edges have no undirected cycle
abbrev pub HaveNoCycle : List Edge → Type 0
HaveNoCycle edges = HasNoCycle (Joins edges) (λ number. number < length edges)

-- the two ends of an edge are the same, or joined by an undirected path of edges before it
abbrev pub ClosesEarlier : List Edge → (number : ℕ) → Type 0
ClosesEarlier edges number = Closes (Joins edges) (λ other. other < number) number

-- the first edge that closes a cycle
pub record IsFirstToClose (edges : List Edge) (number : ℕ) : Type 0 where
  pub closes : ClosesEarlier edges number
  pub none_before : (earlier : ℕ) → earlier < number → ClosesEarlier edges earlier → ⊥

-- the name of an edge: the address of its word, and 1 more where it is taken
abbrev pub edge_name : Edge → ℕ
edge_name edge = edge.from + (if is_taken_kind edge.kind then 1 else 0)

-- a name is that of the first edge that closes a cycle
pub record NamesFirstToClose (edges : List Edge) (name : ℕ) : Type 0 where
  pub number : ℕ
  pub edge : Edge
  pub there : slice_get edges number ≡ Some edge
  pub first : IsFirstToClose edges number
  pub named : name ≡ edge_name edge

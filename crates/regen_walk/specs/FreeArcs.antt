-- The edges that a walk passes without any record, as arcs between the places of code words: this project's own.
use Rattle.std.specs.Prelude.{ℕ, Bool, true, false, not, List, [], ◌∷◌, Option, None, if◌then◌else◌, slice_get}
use Rattle.std.specs.List.{cons_option}
use Rattle.std.specs.Option.{option_map, option_map_or}
use Rattle.rv_code.specs.declared.class.Class.{Class}
use Rattle.rv_code.specs.declared.class.Class.TheVariants.{Plain, Load, Store, Branch, Jump, Indirect, Call, Stop}
use Rattle.flow_graph.specs.declared.edge.Edge.{Edge}
use Rattle.flow_graph.specs.Edges.{is_taken_kind}
use Rattle.regen_path.specs.declared.arcs.Arc.{Arc}
use Rattle.schema_form.specs.declared.word.SchemaWord.{SchemaWord}
use Rattle.schema_form.specs.Flags.{class_in}
use Rattle.schema_form.specs.FreeEdges.{free_edges}
use Rattle.schema_form.specs.SchemaParts.{SchemaParts}
use Rattle.regen_walk.specs.Moves.{is_kept}

-- a word of the class goes on by this way, and needs no record for it
abbrev pub goes_quietly : (kept taken : Bool) → Class → Bool
goes_quietly kept taken Plain = not taken
goes_quietly kept taken Load = if kept then false else not taken
goes_quietly kept taken Store = not taken
goes_quietly kept taken Branch = true
goes_quietly kept taken Jump = taken
goes_quietly kept taken Indirect = false
goes_quietly kept taken Call = false
goes_quietly kept taken Stop = false

-- what a schema has for a word that goes on so
abbrev pub word_goes_quietly : (taken : Bool) → SchemaWord → Bool
word_goes_quietly taken word = option_map_or (goes_quietly (is_kept word) taken) (class_in word.flags) false

-- the number of an arc's kind, by its way
abbrev pub kind_number : (taken : Bool) → ℕ
kind_number true = 1
kind_number false = 0

-- the arc of an edge whose word needs no record, if it leads to a code word
abbrev pub quiet_arc : List SchemaWord → Edge → Option Arc
quiet_arc words edge =
    if option_map_or (word_goes_quietly (is_taken_kind edge.kind)) (slice_get words edge.source) false
    then option_map (λ (to : ℕ). record { from = edge.source; to = to; kind = kind_number (is_taken_kind edge.kind) }) edge.to
    else None

abbrev pub quiet_arcs_among : List SchemaWord → List Edge → List Arc
quiet_arcs_among words [] = []
quiet_arcs_among words (edge ∷ edges) = cons_option (quiet_arc words edge) (quiet_arcs_among words edges)

-- those of a schema, in the order of its words
abbrev pub quiet_arcs : SchemaParts → List Arc
quiet_arcs parts = quiet_arcs_among parts.words (free_edges parts.stretches parts.words)

-- Edges: the ways from the last word of each block to the next address and to its direct target.
use Rattle.std.specs.Prelude.{ℕ, Bool, true, false, List, [], Option, flat_map}
use Rattle.std.specs.List.{cons_option, enumerate_from}
use Rattle.std.specs.Option.{option_and_then, option_map}
use Rattle.rv_code.specs.declared.image.Range.{Range}
use Rattle.rv_code.specs.declared.instr.Instr.{Instr}
use Rattle.rv_code.specs.Ways.{way_to}
use Rattle.flow_graph.specs.declared.block.Block.{Block}
use Rattle.flow_graph.specs.declared.edge.Edge.{Edge}
use Rattle.flow_graph.specs.declared.edge.Kind.{Kind}
use Rattle.flow_graph.specs.declared.edge.Kind.TheVariants.{Fall, Taken}
use Rattle.flow_graph.specs.CodeParts.{CodeParts, instr_in}
use Rattle.flow_graph.specs.Leaders.{block_starts}
use Rattle.flow_graph.specs.Blocks.{blocks_among, block_among}

abbrev pub kind_by : (taken : Bool) → Kind
kind_by true = Taken
kind_by false = Fall

abbrev pub is_taken_kind : Kind → Bool
is_taken_kind Taken = true
is_taken_kind Fall = false

-- where a way leads from the code word at this address, if a word stands there and has that way
abbrev pub way_among : List Range → (taken : Bool) → ℕ → Option ℕ
way_among ranges taken address = option_and_then (λ (instr : Instr). way_to taken instr address) (instr_in ranges address)

-- The edge of one way from the last word of the block with this number, if it has that way. It leaves where its target is no
-- code word, and then leads to no block.
abbrev pub edge_among : List Range → (starts : List ℕ) → (taken : Bool) → (number from : ℕ) → Option Edge
edge_among ranges starts taken number from =
    option_map
    (λ (target : ℕ). record { from = from; kind = kind_by taken; source = number; to = block_among ranges starts target; target = target })
    (way_among ranges taken from)

-- the edges of the block with this number, Fall first
abbrev pub edges_from : List Range → (starts : List ℕ) → ℕ × Block → List Edge
edges_from ranges starts numbered =
    cons_option (edge_among ranges starts false numbered.0 numbered.1.last)
    (cons_option (edge_among ranges starts true numbered.0 numbered.1.last) [])

abbrev pub edges_among : List Range → (starts : List ℕ) → List Edge
edges_among ranges starts = flat_map (edges_from ranges starts) (enumerate_from 0 (blocks_among ranges starts))

-- all edges, numbered from 0 by their places in this list
abbrev pub edges_of : CodeParts → List Edge
edges_of parts = edges_among parts.code (block_starts parts)

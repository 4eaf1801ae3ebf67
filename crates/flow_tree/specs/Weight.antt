-- Weights of edges by the depth of the blocks that they join: an estimate of how often an edge is passed (after Ball and Larus 1994,
-- who take such weights for the edges of loops). This project's own numbers.
use Rattle.std.specs.Prelude.{ℕ, ◌*◌, ◌^◌, Bool, true, false, ◌&&◌, List, map, min, nat_lt, if◌then◌else◌}
use Rattle.std.specs.Option.{option_map_or}
use Rattle.rv_code.specs.declared.class.Class.{Class}
use Rattle.rv_code.specs.declared.class.Class.TheVariants.{Branch}
use Rattle.rv_code.specs.declared.instr.Instr.{Instr}
use Rattle.rv_code.specs.Parts.{class_of}
use Rattle.flow_graph.specs.declared.edge.Edge.{Edge}
use Rattle.flow_graph.specs.CodeParts.{CodeParts, instr_at}
use Rattle.flow_graph.specs.Edges.{edges_of, is_taken_kind}
use Rattle.flow_tree.specs.Depth.{depth_of}

abbrev pub is_branch : Class → Bool
is_branch Branch = true
is_branch _ = false

-- the taken edge of a branch to a greater address than its own: more often than not such a branch isn't taken
abbrev pub skips_ahead : CodeParts → Edge → Bool
skips_ahead parts edge =
    is_taken_kind edge.kind
    && option_map_or (λ (instr : Instr). is_branch (class_of instr)) (instr_at parts edge.from) false
    && nat_lt edge.from edge.target

-- the smaller depth of an edge's two ends; outside the code it is 0
abbrev pub edge_depth : CodeParts → Edge → ℕ
edge_depth parts edge = min (depth_of parts edge.source) (option_map_or (depth_of parts) edge.to 0)

-- eight times as much with each loop more, and twice as much for all edges but those that skip ahead
abbrev pub weight_by_depth : CodeParts → Edge → ℕ
weight_by_depth parts edge = 8 ^ edge_depth parts edge * (if skips_ahead parts edge then 1 else 2)

-- the weights of the edges, by their numbers
abbrev pub weights_by_depth : CodeParts → List ℕ
weights_by_depth parts = map (weight_by_depth parts) (edges_of parts)

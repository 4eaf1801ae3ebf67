-- The depth of blocks: round how many places loops go back past a block, by the edges that lead backwards. This project's own, after
-- the loops of compilers (Aho, Lam, Sethi and Ullman, section 9.6), of whose back edges it asks no dominance.
use Rattle.std.specs.Prelude.{ℕ, Bool, false, ◌&&◌, not, List, map, filter, min, Option, is_some, nat_eq, nat_le, slice_get, unwrap_or}
use Rattle.std.specs.Option.{option_map_or}
use Rattle.std.specs.Set.{distinct_count}
use Rattle.rv_code.specs.declared.instr.Instr.{Instr}
use Rattle.rv_code.specs.Parts.{written_by}
use Rattle.flow_graph.specs.declared.block.Block.{Block}
use Rattle.flow_graph.specs.declared.edge.Edge.{Edge}
use Rattle.flow_graph.specs.Blocks.{blocks_of}
use Rattle.flow_graph.specs.CodeParts.{CodeParts, instr_at}
use Rattle.flow_graph.specs.Edges.{edges_of, is_taken_kind}
use Rattle.flow_tree.specs.declared.limit.TheConstants.{DEPTH_LIMIT}

-- A jump that writes a register keeps a link there: it calls a routine, which comes back. A branch writes none.
abbrev pub keeps_link : Option Instr → Bool
keeps_link instr = option_map_or (λ (instr : Instr). is_some (written_by instr)) instr false

-- the taken edge of a branch, or of a jump that keeps no link
abbrev pub may_loop : CodeParts → Edge → Bool
may_loop parts edge = is_taken_kind edge.kind && not (keeps_link (instr_at parts edge.from))

-- such an edge that leads from this address, or from behind it, to it, or to before it
abbrev pub goes_back_past : CodeParts → (address : ℕ) → Edge → Bool
goes_back_past parts address edge = may_loop parts edge && nat_le edge.target address && nat_le address edge.from

-- the addresses to which edges go back past this one, also those where no code word stands
abbrev pub heads_among : CodeParts → (address : ℕ) → List Edge → List ℕ
heads_among parts address edges = map (λ (edge : Edge). edge.target) (filter (goes_back_past parts address) edges)

-- how many such addresses there are, each counted once, and six at most
abbrev pub depth_over : CodeParts → (address : ℕ) → ℕ
depth_over parts address = min DEPTH_LIMIT (distinct_count nat_eq (heads_among parts address (edges_of parts)))

-- the depths of the blocks, by their numbers
abbrev pub depths_of : CodeParts → List ℕ
depths_of parts = map (λ (block : Block). depth_over parts block.leader) (blocks_of parts)

-- the depth of the block with this number
abbrev pub depth_of : CodeParts → (block : ℕ) → ℕ
depth_of parts block = unwrap_or (slice_get (depths_of parts) block) 0

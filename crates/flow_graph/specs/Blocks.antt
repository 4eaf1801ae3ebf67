-- Blocks: runs of code words that are carried out one behind the other, once the first one is (basic blocks).
use Rattle.std.specs.Prelude.{ℕ, ◌+◌, Bool, false, ◌&&◌, ◌||◌, not, List, map, filter, Option, None, if◌then◌else◌, nat_le, position}
use Rattle.std.specs.List.{zip}
use Rattle.std.specs.Option.{option_map_or}
use Rattle.rv_code.specs.declared.image.Range.{Range}
use Rattle.rv_code.specs.declared.instr.Instr.{Instr}
use Rattle.rv_code.specs.Code.{extents_of, is_code}
use Rattle.rv_code.specs.Parts.{class_of}
use Rattle.rv_code.specs.Places.{code_addresses}
use Rattle.rv_code.specs.Ways.{ends_a_run}
use Rattle.flow_graph.specs.declared.block.Block.{Block}
use Rattle.flow_graph.specs.CodeParts.{CodeParts, instr_in}
use Rattle.flow_graph.specs.Leaders.{block_starts, is_leader_among}

-- behind this address stands no code word, or a leader
abbrev pub is_end_among : List Range → (starts : List ℕ) → ℕ → Bool
is_end_among ranges starts address = not (is_code (extents_of ranges) (address + 4)) || is_leader_among ranges starts (address + 4)

-- The code word at this address is the last of its block: it is a branch, a jump, an indirect jump or a stop, or behind it stands no
-- code word, or a leader.
abbrev pub is_last_among : List Range → (starts : List ℕ) → ℕ → Bool
is_last_among ranges starts address =
    option_map_or (λ (instr : Instr). ends_a_run (class_of instr)) (instr_in ranges address) false || is_end_among ranges starts address

abbrev pub block_by : ℕ × ℕ → Block
block_by ends = record { leader = ends.0; last = ends.1 }

-- the blocks in the order of their addresses: from the first leader to the first last word, and so on
abbrev pub blocks_among : List Range → (starts : List ℕ) → List Block
blocks_among ranges starts =
    map block_by (zip (filter (is_leader_among ranges starts) (code_addresses (extents_of ranges))) (filter (is_last_among ranges starts) (code_addresses (extents_of ranges))))

abbrev pub blocks_of : CodeParts → List Block
blocks_of parts = blocks_among parts.code (block_starts parts)

-- the code word at this address ends a block
abbrev pub is_last : CodeParts → ℕ → Bool
is_last parts address = is_last_among parts.code (block_starts parts) address

-- the address lies within the block
abbrev pub holds : Block → ℕ → Bool
holds block address = nat_le block.leader address && nat_le address block.last

-- the number of the block that holds the code word at this address, if one stands there
abbrev pub block_among : List Range → (starts : List ℕ) → ℕ → Option ℕ
block_among ranges starts address =
    if is_code (extents_of ranges) address then position (λ (block : Block). holds block address) (blocks_among ranges starts) else None

abbrev pub block_at : CodeParts → ℕ → Option ℕ
block_at parts address = block_among parts.code (block_starts parts) address

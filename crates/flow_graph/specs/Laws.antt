-- What a reader expects of blocks and edges, and of names that are each kept once.
use Rattle.std.specs.Prelude.{◌≡◌, ℕ, ◌*◌, ◌%◌, ◌<◌, ◌≤◌, true, false, IfSome, List, Some, count_by, length, slice_get}
use Rattle.std.specs.List.{AllByRecursion}
use Rattle.std.specs.Option.{option_map}
use Rattle.std.specs.Str.{bytes_eq}
use Rattle.rv_code.specs.declared.image.Name.{Name}
use Rattle.rv_code.specs.Image.{word_count}
use Rattle.flow_graph.specs.declared.block.Block.{Block}
use Rattle.flow_graph.specs.declared.edge.Edge.{Edge}
use Rattle.flow_graph.specs.CodeParts.{CodeParts, routine_named, first_seen, has_code}
use Rattle.flow_graph.specs.Blocks.{block_at, blocks_of, holds, is_last}
use Rattle.flow_graph.specs.Edges.{edges_of, is_taken_kind, way_among}
use Rattle.flow_graph.specs.Leaders.{is_leader}

-- A block begins with a leader, no other leader stands in it, its words stand one behind the other, and it goes on to the first word
-- that ends a block.
pub record IsBlock (parts : CodeParts) (block : Block) : Type 0 where
  pub order : block.leader ≤ block.last
  pub begins : is_leader parts block.leader ≡ true
  pub alone : (address : ℕ) → block.leader < address → address ≤ block.last → is_leader parts address ≡ false
  pub words : (address : ℕ) → address % 4 ≡ 0 → block.leader ≤ address → address ≤ block.last → has_code parts address ≡ true
  pub ends : is_last parts block.last ≡ true
  pub goes_on : (address : ℕ) → has_code parts address ≡ true → block.leader ≤ address → address < block.last → is_last parts address ≡ false

abbrev pub BlocksAreRuns : CodeParts → Type 0
BlocksAreRuns parts = AllByRecursion (IsBlock parts) (blocks_of parts)

-- each code word is in exactly one block
abbrev pub WordsAreInOneBlock : CodeParts → Type 0
WordsAreInOneBlock parts = (address : ℕ) → has_code parts address ≡ true → count_by (λ (block : Block). holds block address) (blocks_of parts) ≡ 1

-- An edge leaves the last word of its source by a way that this word has, and leads to the block that holds its target, if a code
-- word stands there.
pub record IsEdge (parts : CodeParts) (edge : Edge) : Type 0 where
  pub source : option_map (λ (block : Block). block.last) (slice_get (blocks_of parts) edge.source) ≡ Some edge.from
  pub way : way_among parts.code (is_taken_kind edge.kind) edge.from ≡ Some edge.target
  pub to : edge.to ≡ block_at parts edge.target
  pub within : IfSome edge.to (λ number. number < length (blocks_of parts))

abbrev pub EdgesJoinBlocks : CodeParts → Type 0
EdgesJoinBlocks parts = AllByRecursion (IsEdge parts) (edges_of parts)

-- there are no more blocks than code words, and no more than two edges for each
abbrev pub BlocksAreFew : CodeParts → Type 0
BlocksAreFew parts = (length (blocks_of parts) ≤ word_count parts.code) × (length (edges_of parts) ≤ 2 * length (blocks_of parts))

-- the first symbol of a name keeps it
abbrev pub FirstKeepsItsName : List Name → Type 0
FirstKeepsItsName names = (text : List ℕ) → routine_named (first_seen names) text ≡ routine_named names text

-- each name is there at most once
abbrev pub NamesAreApart : List Name → Type 0
NamesAreApart names = (text : List ℕ) → count_by (λ (name : Name). bytes_eq text name.text) (first_seen names) ≤ 1

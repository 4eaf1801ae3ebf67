-- The text of a flow graph: its routines, its blocks and its edges, a line for each. This project's own. Numbers, depths and weights are
-- decimal; addresses have eight hexadecimal digits.
use Rattle.std.specs.Prelude.{◌≡◌, ℕ, ◌<◌, Bool, true, false, ◌&&◌, List, [], ◌∷◌, ◌++◌, length, Option, Some, None, codes, nat_le, slice_index, slice_index_or, if◌then◌else◌}
use Rattle.std.specs.List.{flat_map}
use Rattle.rv_code.specs.declared.image.Name.{Name}
use Rattle.ae_nums.specs.Decimal.{decimal_text}
use Rattle.ae_nums.specs.Hex.{hex_text, hex8_text}
use Rattle.ae_nums.specs.Trace.{newline}
use Rattle.flow_graph.specs.declared.block.Block.{Block}
use Rattle.flow_graph.specs.declared.edge.Edge.{Edge}
use Rattle.flow_graph.specs.declared.edge.Kind.{Kind}
use Rattle.flow_graph.specs.declared.edge.Kind.TheVariants.{Fall, Taken}
use Rattle.flow_graph.specs.Blocks.{blocks_of}
use Rattle.flow_graph.specs.CodeParts.{CodeParts}
use Rattle.flow_graph.specs.Edges.{edges_of}
use Rattle.flow_tree.specs.Depth.{depth_of}
use Rattle.flow_tree.specs.WitnessEdges.{IsCertificate}
use Rattle.ae_print.specs.Numbered.{numbered_lines}

-- a byte of a name: from 21 to 7e as it is, and else as `\x` and its two digits
abbrev pub shown_byte : ℕ → List ℕ
shown_byte byte = if nat_le 33 byte && nat_le byte 126 then byte ∷ [] else 92 ∷ 120 ∷ hex_text 2 byte

abbrev pub shown_name : List ℕ → List ℕ
shown_name text = flat_map shown_byte text

-- the front of a routine's line, before its name
abbrev pub routine_front : (address : ℕ) → List ℕ
routine_front address = codes "routine " ++ hex8_text address ++ codes " "

-- as `routine 00010080 arm`
abbrev pub routine_line : Name → List ℕ
routine_line name = routine_front name.address ++ shown_name name.text ++ newline

abbrev pub routine_lines : List Name → List ℕ
routine_lines names = flat_map routine_line names

-- as `block 0001007c 0001008c depth 1`
abbrev pub block_line : (depth : ℕ) → Block → List ℕ
block_line depth block =
    codes "block " ++ hex8_text block.leader
    ++ codes " " ++ hex8_text block.last
    ++ codes " depth " ++ decimal_text depth
    ++ newline

abbrev pub block_lines : CodeParts → List ℕ
block_lines parts = numbered_lines (λ number block. block_line (depth_of parts number) block) (blocks_of parts)

abbrev pub kind_text : Kind → List ℕ
kind_text Fall = codes " fall "
kind_text Taken = codes " taken "

-- the front of an edge's line, before its weight
abbrev pub edge_front : (number : ℕ) → Edge → List ℕ
edge_front number edge = codes "edge " ++ decimal_text number ++ codes " " ++ hex8_text edge.from ++ kind_text edge.kind ++ hex8_text edge.target

abbrev pub weight_text : ℕ → List ℕ
weight_text weight = codes " weight " ++ decimal_text weight

-- the numbers of a path's edges, each behind a blank
abbrev pub step_text : (edge : ℕ) → List ℕ
step_text edge = codes " " ++ decimal_text edge

abbrev pub path_text : (path : List ℕ) → List ℕ
path_text path = flat_map step_text path

-- What is said of an edge behind its weight: that it is no witness, or else that it leaves the code, or else that it is another witness,
-- and by which path.
abbrev pub mark_text : (is_witness : Bool) → (to : Option ℕ) → (path : List ℕ) → List ℕ
mark_text false to path = codes " tree"
mark_text true None path = codes " leaves"
mark_text true (Some block) path = codes " witness" ++ path_text path

-- as `edge 1 00010074 taken 00010078 weight 1 witness 0`
abbrev pub edge_line : (is_witness : Bool) → (path : List ℕ) → (number weight : ℕ) → Edge → List ℕ
edge_line is_witness path number weight edge = edge_front number edge ++ weight_text weight ++ mark_text is_witness edge.to path ++ newline

-- The lines of the edges, with a weight, a mark and a path for each number.
abbrev pub edge_lines : CodeParts → (weights : List ℕ) → (marks : List Bool) → (path_of : ℕ → List ℕ) → List ℕ
edge_lines parts weights marks path_of =
    numbered_lines (λ number edge. edge_line (slice_index_or marks number false) (path_of number) number (slice_index weights number) edge) (edges_of parts)

-- the routines, the blocks and the edges
abbrev pub graph_text : CodeParts → (weights : List ℕ) → (marks : List Bool) → (path_of : ℕ → List ℕ) → List ℕ
graph_text parts weights marks path_of = routine_lines parts.routines ++ block_lines parts ++ edge_lines parts weights marks path_of

-- these paths are the certificates of the edges, by their numbers
abbrev pub AreCertificates : List Edge → (marks : List Bool) → (path_of : ℕ → List ℕ) → Type 0
AreCertificates edges marks path_of = (number : ℕ) → number < length edges → IsCertificate edges marks number (path_of number)

-- The text of a graph of which these edges are marked as witnesses. The paths are the edges' certificates, of which each edge has one.
pub record IsGraphText (parts : CodeParts) (weights : List ℕ) (marks : List Bool) (text : List ℕ) : Type 0 where
  pub path_of : ℕ → List ℕ
  pub certificates : AreCertificates (edges_of parts) marks path_of
  pub is : text ≡ graph_text parts weights marks path_of

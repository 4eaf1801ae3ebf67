-- No block is deeper than the limit, and weights fit words.
use Rattle.std.proofs.Common.{ℕ, zero, suc, ◌^◌, ◌≤◌, List, [], ◌∷◌, map, arith, lit<}
use Rattle.std.proofs.Math.Nat.{pow-le-pow_right}
use Rattle.std.specs.Prelude.{slice_get, unwrap_or}
use Rattle.flow_graph.specs.declared.block.Block.{Block}
use Rattle.flow_graph.specs.declared.edge.Edge.{Edge}
use Rattle.flow_graph.specs.Blocks.{blocks_of}
use Rattle.flow_graph.specs.CodeParts.{CodeParts}
use Rattle.flow_tree.specs.Depth.{depth_of, depth_over}
use Rattle.flow_tree.specs.Weight.{edge_depth}

shallow_among : (parts : CodeParts) (number : ℕ) (blocks : List Block) → unwrap_or (slice_get (map (λ (block : Block). depth_over parts block.leader) blocks) number) 0 ≤ 6
shallow_among parts number [] = omega arith
shallow_among parts zero (block ∷ blocks) = omega arith
shallow_among parts (suc number) (block ∷ blocks) = shallow_among parts number blocks

pub depth_of-le : (parts : CodeParts) (number : ℕ) → depth_of parts number ≤ 6
depth_of-le parts number = shallow_among parts number (blocks_of parts)

pub edge_depth-le : (parts : CodeParts) (edge : Edge) → edge_depth parts edge ≤ 6
edge_depth-le parts edge = omega (arith, depth_of-le parts edge.source)

pub powers_of_eight : (depth : ℕ) → depth ≤ 6 → 8 ^ depth ≤ 262144
powers_of_eight depth few = pow-le-pow_right (lit< tt) few

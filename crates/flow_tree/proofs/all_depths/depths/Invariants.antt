use Rattle.std.proofs.Common.{◌≡◌, map, take}
use Rattle.flow_graph.specs.declared.block.Block.{Block}
use Rattle.flow_tree.specs.Depth.{depth_over}
use Rattle.flow_tree.proofs.all_depths.depths.Given as goal

abbrev pub invariant-loop-block : goal.invariant-loop-block
invariant-loop-block l = l.depths.items ≡ map (λ (block : Block). depth_over l.graph block.leader) (take l.block-index l.block-items)

use Rattle.std.proofs.Common.{take}
use Rattle.flow_tree.specs.Depth.{heads_among}
use Rattle.flow_tree.proofs.Seen.{HasSeen}
use Rattle.flow_tree.proofs.block_depth.depth_over.Given as goal

abbrev pub invariant-loop-edge : goal.invariant-loop-edge
invariant-loop-edge l = HasSeen l.heads (heads_among l.graph l.address (take l.edge-index l.edge-items))

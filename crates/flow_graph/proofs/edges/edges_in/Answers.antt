use Rattle.std.proofs.Common.{arith}
use Rattle.flow_graph.proofs.Leaving.{one_block_more}
use Rattle.flow_graph.proofs.edges.edges_in.Goals as goal

pub loop-number-preserved : goal.loop-number-preserved
loop-number-preserved c = λ starts numbered.
    one_block_more c.args.ranges.now starts c.loop-number.number c.args.blocks.now (record { leader = 0; last = 0 }) c.loop-number.edges.items c.push_edges_of.new.edges.items (omega arith)
    (c.in_ok-push_edges_of.ensures starts numbered) (c.loop-number.invariant starts numbered)

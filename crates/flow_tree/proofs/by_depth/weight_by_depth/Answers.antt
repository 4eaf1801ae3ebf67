use Rattle.flow_tree.proofs.Shallow.{edge_depth-le}
use Rattle.flow_tree.proofs.by_depth.weight_by_depth.Goals as goal

pub weight_at-weight-requires : goal.weight_at-weight-requires
weight_at-weight-requires c = rw (c.edge_depth.ensures c.args.graph.now c.requires) (edge_depth-le c.args.graph.now c.args.edge.now)

use Rattle.std.proofs.Common.{arith}
use Rattle.flow_tree.proofs.Shallow.{powers_of_eight}
use Rattle.flow_tree.proofs.by_depth.weight_at.Goals as goal

pub pow-requires : goal.pow-requires
pow-requires c = omega (arith, powers_of_eight c.args.depth c.requires)

pub returns-clause-bound : goal.returns-clause-bound
returns-clause-bound c = rw c.pow.ensures (powers_of_eight c.args.depth c.requires)

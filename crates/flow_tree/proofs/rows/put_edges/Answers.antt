use Rattle.std.proofs.Common.{arith}
use Rattle.flow_tree.proofs.rows.put_edges.Goals as goal

pub put_at_ends-requires-clause-blocks : goal.put_at_ends-requires-clause-blocks
put_at_ends-requires-clause-blocks c = λ edge one other joined. let within = c.requires.blocks edge one other joined in omega (arith, within, c.loop-number.auto.rows)

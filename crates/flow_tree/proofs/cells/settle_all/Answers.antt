use Rattle.std.proofs.Common.{arith}
use Rattle.flow_tree.proofs.cells.settle_all.Goals as goal

pub settle-count-requires-clause-blocks : goal.settle-count-requires-clause-blocks
settle-count-requires-clause-blocks c = λ edge one other joined. let within = c.requires.blocks edge one other joined in omega (arith, within, c.loop-block.auto.cells)

use Rattle.flow_tree.proofs.LeafTest.{one_end_test, other_ends_test}
use Rattle.flow_tree.proofs.cells.is_leaf.Goals as goal

pub returns-then-cells-block-eq1 : goal.returns-then-cells-block-eq1
returns-then-cells-block-eq1 c = one_end_test c.args.cells.now c.args.stays.now c.args.block c.contains.result c.requires c.if-cells-block-eq1.true c.contains.ensures.value

pub returns-else-cells-block-eq1 : goal.returns-else-cells-block-eq1
returns-else-cells-block-eq1 c = other_ends_test c.args.cells.now c.args.stays.now c.args.block c.requires c.if-cells-block-eq1.false

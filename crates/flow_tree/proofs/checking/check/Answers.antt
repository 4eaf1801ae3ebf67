use Rattle.std.proofs.Common.{[], arith}
use Rattle.flow_tree.specs.WitnessEdges.{CutsCycles}
use Rattle.flow_tree.proofs.Checked.{filled_remains, filled_leaving, passes, fails, none_left_exactly}
use Rattle.flow_tree.proofs.checking.check.Goals as goal

pub fill-requires-clause-blocks : goal.fill-requires-clause-blocks
fill-requires-clause-blocks c = λ edge one other joined. let within = c.requires.blocks edge one other joined in omega (arith, within, c.clear.auto.cells)

pub settle_all-requires-clause-blocks : goal.settle_all-requires-clause-blocks
settle_all-requires-clause-blocks c = λ edge one other joined. let within = c.requires.blocks edge one other joined in omega (arith, within, c.clear.auto.cells, c.fill.auto.cells)

pub returns : goal.returns
returns c =
    let filled = c.in-Some.ensures in
    let remains = c.settle_all.ensures.remains c.args.witness.now (filled_remains c.args.edges.now c.args.witness.now [] c.fill.new.cells c.in-Some.left c.requires.marks filled) in
    none_left_exactly c.settle_all.result (CutsCycles c.args.edges.now c.args.witness.now)
    (λ none. passes c.args.edges.now c.args.witness.now c.settle_all.new.cells c.settle_all.result none remains
    (filled_leaving c.args.edges.now c.args.witness.now c.fill.new.cells c.in-Some.left c.requires.marks filled))
    (λ some cuts. fails c.args.edges.now c.args.witness.now c.settle_all.new.cells c.settle_all.result some remains c.settle_all.ensures.settled
    (λ edge one other joined. let within = c.requires.blocks edge one other joined in omega (arith, within, c.clear.auto.cells, c.fill.auto.cells, c.settle_all.auto.cells)) cuts)

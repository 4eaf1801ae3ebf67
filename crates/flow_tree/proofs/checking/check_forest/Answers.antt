use Rattle.std.proofs.Common.{◌≡◌, length, ap, ◌∙◌, arith}
use Rattle.std.proofs.lemmas.List.{length-take-le}
use Rattle.flow_graph.specs.declared.block.Block.{Block}
use Rattle.flow_graph.specs.Blocks.{blocks_of}
use Rattle.flow_tree.specs.declared.cells.Cell.{Cell}
use Rattle.flow_tree.proofs.checking.check_forest.Goals as goal

pub check-requires-clause-fit : goal.check-requires-clause-fit
check-requires-clause-fit c =
    let blocks : length c.blocks-blocks.result.now ≡ length (blocks_of c.args.graph.now) = ap (length {A = Block}) c.blocks-blocks.ensures in
    let inside : length c.deref_mut.result.now ≡ c.args.row.now = ap (length {A = Cell}) c.deref_mut.ensures.value ∙ c.row.view_is in
    let taken = length-take-le (length c.blocks-blocks.result.now) c.deref_mut.result.now (omega (arith, blocks, inside, c.requires.room)) in
    omega (arith, taken, blocks, c.edges_in.ensures.blocks)

pub check-requires-clause-blocks : goal.check-requires-clause-blocks
check-requires-clause-blocks c = λ edge one other joined.
    let within = c.edges_in.ensures.within edge one other joined in
    let blocks : length c.blocks-blocks.result.now ≡ length (blocks_of c.args.graph.now) = ap (length {A = Block}) c.blocks-blocks.ensures in
    let inside : length c.deref_mut.result.now ≡ c.args.row.now = ap (length {A = Cell}) c.deref_mut.ensures.value ∙ c.row.view_is in
    let taken = length-take-le (length c.blocks-blocks.result.now) c.deref_mut.result.now (omega (arith, blocks, inside, c.requires.room)) in
    omega (arith, taken, blocks, within)

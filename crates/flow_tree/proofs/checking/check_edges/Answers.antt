use Rattle.std.proofs.Common.{◌≡◌, length, ap, ◌∙◌, arith}
use Rattle.flow_tree.specs.declared.cells.Cell.{Cell}
use Rattle.flow_tree.proofs.checking.check_edges.Goals as goal

pub check-requires-clause-fit : goal.check-requires-clause-fit
check-requires-clause-fit c =
    let inside : length c.deref_mut.result.now ≡ c.args.row.now = ap (length {A = Cell}) c.deref_mut.ensures.value ∙ c.row.view_is in
    omega (arith, inside, c.requires.fit)

pub check-requires-clause-blocks : goal.check-requires-clause-blocks
check-requires-clause-blocks c = λ edge one other joined.
    let within = c.requires.blocks edge one other joined in
    let inside : length c.deref_mut.result.now ≡ c.args.row.now = ap (length {A = Cell}) c.deref_mut.ensures.value ∙ c.row.view_is in
    omega (arith, inside, within)

use Rattle.std.proofs.Common.{◌≡◌, List, replicate, Some, sym, ◌∙◌, subst, arith}
use Rattle.std.specs.Prelude.{slice_get}
use Rattle.flow_tree.specs.declared.cells.Cell.{Cell}
use Rattle.flow_tree.proofs.Leaves.{no_cell}
use Rattle.flow_tree.proofs.Walks.{replicate_cell}
use Rattle.flow_tree.proofs.certifying.tree_path.Goals as goal

pub walk-requires-clause-blocks : goal.walk-requires-clause-blocks
walk-requires-clause-blocks c = λ edge one other joined.
    let within = c.requires.blocks edge one other joined in
    omega (arith, within, c.in_ok-cells.ensures.len, c.deref_mut.ensures.len)

pub walk-requires-clause-empty : goal.walk-requires-clause-empty
walk-requires-clause-empty c = λ block within.
    let cells : c.deref_mut.result.now ≡ replicate c.args.blocks no_cell = c.deref_mut.ensures.value ∙ c.in_ok-cells.ensures.items_if_clones_equal (λ y same. same) in
    subst (λ (xs : List Cell). slice_get xs block ≡ Some no_cell) (sym cells) (replicate_cell c.args.blocks block (omega (arith, within, c.in_ok-cells.ensures.len, c.deref_mut.ensures.len)))

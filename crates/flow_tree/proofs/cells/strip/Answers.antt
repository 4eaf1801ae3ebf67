use Rattle.std.proofs.Common.{◌≤◌, get_or, sym, subst, arith}
use Rattle.std.proofs.lemmas.List.{length-set}
use Rattle.std.proofs.lemmas.Option.{slice_get_within}
use Rattle.flow_tree.specs.declared.cells.Cell.{Cell}
use Rattle.flow_tree.specs.WitnessEdges.{joins_forth}
use Rattle.flow_tree.proofs.LawsOfJoins.{Joins-IsUndirected, joins_within}
use Rattle.flow_tree.proofs.Leaves.{no_cell, leaf_edge, leaf_far, far_read, far_count, far_sum, stripped}
use Rattle.flow_tree.proofs.cells.strip.Goals as goal

pub bounds-edges-number : goal.bounds-edges-number
bounds-edges-number c =
    let known = leaf_edge c.args.edges.now c.requires.cells.0 c.args.cells.now c.args.leaf c.requires.cells.1 c.requires.leaf in
    joins_within c.args.edges.now (get_or c.args.cells.now c.args.leaf no_cell).sum known.from known.to (joins_forth known.leads)

pub offset_bounds-edges-number : goal.offset_bounds-edges-number
offset_bounds-edges-number c =
    let known = leaf_edge c.args.edges.now c.requires.cells.0 c.args.cells.now c.args.leaf c.requires.cells.1 c.requires.leaf in
    let within = joins_within c.args.edges.now (get_or c.args.cells.now c.args.leaf no_cell).sum known.from known.to (joins_forth known.leads) in
    record { fits = omega (arith, within, c.requires.few) }

pub bounds-cells-leaf-2 : goal.bounds-cells-leaf-2
bounds-cells-leaf-2 c = slice_get_within c.args.cells.now c.args.leaf (record { count = 1; sum = c.requires.leaf.0 }) c.requires.leaf.1

pub slice_copy_out-cell : goal.slice_copy_out-cell
slice_copy_out-cell c =
    let known = leaf_edge c.args.edges.now c.requires.cells.0 c.args.cells.now c.args.leaf c.requires.cells.1 c.requires.leaf in
    let number = (get_or c.args.cells.now c.args.leaf no_cell).sum in
    let ends = leaf_far c.args.edges.now c.requires.cells.0 c.args.leaf number c.far_end-far.result known c.far_end-far.ensures in
    let within = c.requires.blocks number c.far_end-far.result c.args.leaf ((Joins-IsUndirected c.args.edges.now).turned number c.args.leaf c.far_end-far.result ends.joined) in
    omega (arith, within, length-set c.args.cells.now c.args.leaf no_cell)

pub without-requires-clause-count : goal.without-requires-clause-count
without-requires-clause-count c =
    let known = leaf_edge c.args.edges.now c.requires.cells.0 c.args.cells.now c.args.leaf c.requires.cells.1 c.requires.leaf in
    let number = (get_or c.args.cells.now c.args.leaf no_cell).sum in
    let ends = leaf_far c.args.edges.now c.requires.cells.0 c.args.leaf number c.far_end-far.result known c.far_end-far.ensures in
    let within = c.requires.blocks number c.far_end-far.result c.args.leaf ((Joins-IsUndirected c.args.edges.now).turned number c.args.leaf c.far_end-far.result ends.joined) in
    let read = far_read c.args.edges.now c.requires.cells.0 c.args.cells.now c.args.leaf c.far_end-far.result c.requires.cells.1 ends.differ within in
    subst (λ (cell : Cell). 1 ≤ cell.count) (sym read) (far_count c.args.edges.now c.requires.cells.0 c.far_end-far.result number known.is ends.far_one)

pub without-requires-clause-sum : goal.without-requires-clause-sum
without-requires-clause-sum c =
    let known = leaf_edge c.args.edges.now c.requires.cells.0 c.args.cells.now c.args.leaf c.requires.cells.1 c.requires.leaf in
    let number = (get_or c.args.cells.now c.args.leaf no_cell).sum in
    let ends = leaf_far c.args.edges.now c.requires.cells.0 c.args.leaf number c.far_end-far.result known c.far_end-far.ensures in
    let within = c.requires.blocks number c.far_end-far.result c.args.leaf ((Joins-IsUndirected c.args.edges.now).turned number c.args.leaf c.far_end-far.result ends.joined) in
    let read = far_read c.args.edges.now c.requires.cells.0 c.args.cells.now c.args.leaf c.far_end-far.result c.requires.cells.1 ends.differ within in
    subst (λ (cell : Cell). number ≤ cell.sum) (sym read) (far_sum c.args.edges.now c.requires.cells.0 c.far_end-far.result number known.is ends.far_one)

pub bounds-cells-far : goal.bounds-cells-far
bounds-cells-far c =
    let known = leaf_edge c.args.edges.now c.requires.cells.0 c.args.cells.now c.args.leaf c.requires.cells.1 c.requires.leaf in
    let number = (get_or c.args.cells.now c.args.leaf no_cell).sum in
    let ends = leaf_far c.args.edges.now c.requires.cells.0 c.args.leaf number c.far_end-far.result known c.far_end-far.ensures in
    let within = c.requires.blocks number c.far_end-far.result c.args.leaf ((Joins-IsUndirected c.args.edges.now).turned number c.args.leaf c.far_end-far.result ends.joined) in
    omega (arith, within, length-set c.args.cells.now c.args.leaf no_cell)

pub returns : goal.returns
returns c = λ rest held.
    let known = leaf_edge c.args.edges.now rest c.args.cells.now c.args.leaf held c.requires.leaf in
    let number = (get_or c.args.cells.now c.args.leaf no_cell).sum in
    let ends = leaf_far c.args.edges.now rest c.args.leaf number c.far_end-far.result known c.far_end-far.ensures in
    let leaf_within = slice_get_within c.args.cells.now c.args.leaf (record { count = 1; sum = c.requires.leaf.0 }) c.requires.leaf.1 in
    let far_within = c.requires.blocks number c.far_end-far.result c.args.leaf ((Joins-IsUndirected c.args.edges.now).turned number c.args.leaf c.far_end-far.result ends.joined) in
    stripped c.args.edges.now rest c.args.cells.now c.args.leaf number c.far_end-far.result held known ends leaf_within far_within c.without.result c.without.ensures

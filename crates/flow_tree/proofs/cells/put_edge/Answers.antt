use Rattle.std.proofs.Common.{◌≡◌, ◌+◌, ◌∷◌, List, get_or, sym, ap, ◌∙◌, subst, arith, Some}
use Rattle.std.specs.Prelude.{slice_set, slice_get}
use Rattle.std.proofs.lemmas.Option.{slice_get-get_or}
use Rattle.flow_tree.specs.declared.cells.Cell.{Cell}
use Rattle.flow_tree.specs.WitnessEdges.{joins_forth, joins_back}
use Rattle.flow_tree.specs.Inner.Cells.{cell_of, AreCells}
use Rattle.flow_tree.proofs.Filled.{room_for, room_then, both_ends}
use Rattle.flow_tree.proofs.Leaves.{no_cell}
use Rattle.flow_tree.proofs.Sides.{no_edge, edge_leads, leaves_code}
use Rattle.flow_tree.proofs.cells.put_edge.Goals as goal

pub returns-in_default : goal.returns-in_default
returns-in_default c = leaves_code c.args.edges.now c.args.number c.requires.number c.in_default.is

pub put_end-requires-clause-block : goal.put_end-requires-clause-block
put_end-requires-clause-block c =
    let leads = edge_leads c.args.edges.now c.args.number c.in-Some.to c.requires.number c.in-Some.is in
    c.requires.blocks c.args.number (get_or c.args.edges.now c.args.number no_edge).source c.in-Some.to (joins_forth leads)

pub put_end-requires-clause-room : goal.put_end-requires-clause-room
put_end-requires-clause-room c = λ cell is.
    let room = room_for c.args.edges.now c.requires.room.0 c.args.cells.now (get_or c.args.edges.now c.args.number no_edge).source c.args.number cell c.requires.room.1 c.requires.few c.requires.number c.requires.room.2 is in
    (omega (arith, room.0), omega (arith, room.1))

pub put_end-requires-2-clause-block : goal.put_end-requires-2-clause-block
put_end-requires-2-clause-block c =
    let leads = edge_leads c.args.edges.now c.args.number c.in-Some.to c.requires.number c.in-Some.is in
    let within = c.requires.blocks c.args.number c.in-Some.to (get_or c.args.edges.now c.args.number no_edge).source (joins_back leads) in
    omega (arith, within, c.put_end.auto.cells)

pub put_end-requires-2-clause-room : goal.put_end-requires-2-clause-room
put_end-requires-2-clause-room c = λ cell is.
    let leads = edge_leads c.args.edges.now c.args.number c.in-Some.to c.requires.number c.in-Some.is in
    let source = (get_or c.args.edges.now c.args.number no_edge).source in
    let source_within = c.requires.blocks c.args.number source c.in-Some.to (joins_forth leads) in
    let to_within = c.requires.blocks c.args.number c.in-Some.to source (joins_back leads) in
    let cells = c.put_end.ensures (cell_of c.args.edges.now c.requires.room.0 source) (c.requires.room.1.each source source_within) in
    room_then c.args.edges.now c.requires.room.0 c.args.cells.now c.args.number source c.in-Some.to c.requires.room.1 leads source_within to_within
    c.requires.few c.requires.number c.requires.room.2 cell (subst (λ (cs : List Cell). slice_get cs c.in-Some.to ≡ Some cell) cells is)

pub returns : goal.returns
returns c = λ rest held fresh.
    let leads = edge_leads c.args.edges.now c.args.number c.in-Some.to c.requires.number c.in-Some.is in
    let source = (get_or c.args.edges.now c.args.number no_edge).source in
    let source_within = c.requires.blocks c.args.number source c.in-Some.to (joins_forth leads) in
    let to_within = c.requires.blocks c.args.number c.in-Some.to source (joins_back leads) in
    let cells = c.put_end.ensures (cell_of c.args.edges.now rest source) (held.each source source_within) in
    let cell = get_or c.put_end.new.cells c.in-Some.to no_cell in
    let is : slice_get c.put_end.new.cells c.in-Some.to ≡ Some cell = slice_get-get_or c.put_end.new.cells c.in-Some.to no_cell (omega (arith, to_within, c.put_end.auto.cells)) in
    let both = both_ends c.args.edges.now rest c.args.cells.now c.args.number source c.in-Some.to held leads source_within to_within fresh cell (subst (λ (cs : List Cell). slice_get cs c.in-Some.to ≡ Some cell) cells is) in
    subst (AreCells c.args.edges.now (c.args.number ∷ rest)) (sym (c.put_end-2.ensures cell is ∙ ap (λ (cs : List Cell). slice_set cs c.in-Some.to (record { count = cell.count + 1; sum = cell.sum + c.args.number })) cells)) both

use Rattle.std.proofs.Common.{get_or, arith}
use Rattle.flow_tree.specs.WitnessEdges.{joins_forth, joins_back}
use Rattle.std.proofs.lemmas.Result.{on_ok_weaker}
use Rattle.flow_tree.proofs.RowsMade.{both_put, none_put}
use Rattle.flow_tree.proofs.Sides.{no_edge, edge_leads, no_target}
use Rattle.flow_tree.proofs.rows.put_at_ends.Goals as goal

pub put_in_row-requires : goal.put_in_row-requires
put_in_row-requires c =
    let leads = edge_leads c.args.edges.now c.args.number c.in-Some.to c.requires.number c.in-Some.is in
    c.requires.blocks c.args.number (get_or c.args.edges.now c.args.number no_edge).source c.in-Some.to (joins_forth leads)

pub put_in_row-requires-2 : goal.put_in_row-requires-2
put_in_row-requires-2 c =
    let leads = edge_leads c.args.edges.now c.args.number c.in-Some.to c.requires.number c.in-Some.is in
    let within = c.requires.blocks c.args.number c.in-Some.to (get_or c.args.edges.now c.args.number no_edge).source (joins_back leads) in
    omega (arith, within, c.put_in_row.auto.rows)

pub returns-in_default : goal.returns-in_default
returns-in_default c = λ before.
    none_put c.args.edges.now c.args.rows.now c.args.number (λ one other joined. no_target c.args.edges.now c.args.number one other c.requires.number c.in_default.is joined) before

pub returns : goal.returns
returns c = λ before.
    let leads = edge_leads c.args.edges.now c.args.number c.in-Some.to c.requires.number c.in-Some.is in
    on_ok_weaker c.put_in_row-2.result
    (λ puts. both_put c.args.edges.now c.args.rows.now c.put_in_row.new.rows c.put_in_row-2.new.rows c.args.number (get_or c.args.edges.now c.args.number no_edge).source c.in-Some.to leads
    c.in_ok-put_in_row.ensures puts before)
    c.put_in_row-2.ensures

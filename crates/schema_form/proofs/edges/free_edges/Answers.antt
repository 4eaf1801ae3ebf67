use Rattle.rv_code.proofs.LawsOfRows.{rows_more}
use Rattle.schema_form.specs.FreeEdges.{free_edges_at}
use Rattle.schema_form.proofs.edges.free_edges.Goals as goal

pub loop-place-preserved : goal.loop-place-preserved
loop-place-preserved c =
    rows_more (free_edges_at c.args.stretches.now c.args.words.now) c.loop-place.edges.items c.add_edges_at.new.edges.items c.loop-place.place
    c.loop-place.invariant c.in_ok-add_edges_at.ensures

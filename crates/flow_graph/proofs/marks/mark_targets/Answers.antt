use Rattle.flow_graph.proofs.Targets.{targets_more}
use Rattle.flow_graph.proofs.marks.mark_targets.Goals as goal

pub loop-place-preserved : goal.loop-place-preserved
loop-place-preserved c = λ addresses was.
    targets_more c.args.ranges.now addresses c.loop-place.place c.address_at.result c.mark_behind.new.marks c.address_at.ensures (c.mark_behind.ensures _ (c.loop-place.invariant addresses was))

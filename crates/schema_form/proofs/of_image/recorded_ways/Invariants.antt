use Rattle.schema_form.specs.Inner.Recorded.{AreRecordedBefore}
use Rattle.schema_form.proofs.of_image.recorded_ways.Given as goal

abbrev pub invariant-loop-number : goal.invariant-loop-number
invariant-loop-number l = AreRecordedBefore l.graph l.marks l.taken l.number l.cells.items

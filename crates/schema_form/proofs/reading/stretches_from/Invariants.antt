use Rattle.std.proofs.Common.{◌≡◌}
use Rattle.schema_form.specs.Layout.{stretches_from}
use Rattle.schema_form.proofs.reading.stretches_from.Given as goal

abbrev pub invariant-loop-number : goal.invariant-loop-number
invariant-loop-number l = l.stretches.items ≡ stretches_from l.bytes l.number

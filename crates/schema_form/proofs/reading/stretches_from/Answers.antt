use Rattle.std.proofs.Common.{[]}
use Rattle.rv_code.proofs.LawsOfRows.{row_more}
use Rattle.schema_form.specs.Layout.{stretch_from}
use Rattle.schema_form.proofs.reading.stretches_from.Goals as goal

pub loop-number-preserved : goal.loop-number-preserved
loop-number-preserved c =
    row_more (stretch_from c.args.bytes.now) [] c.loop-number.stretches.items c.push.new.self.items c.loop-number.number _ c.loop-number.invariant c.in_ok-push.ensures.items c.stretch_from.ensures

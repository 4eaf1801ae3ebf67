use Rattle.std.proofs.Common.{◌≡◌, take}
use Rattle.schema_form.specs.Layout.{words_total}
use Rattle.schema_form.proofs.stretches.words_total.Given as goal

abbrev pub invariant-loop-stretch : goal.invariant-loop-stretch
invariant-loop-stretch l = l.total ≡ words_total (take l.stretch-index l.stretches)

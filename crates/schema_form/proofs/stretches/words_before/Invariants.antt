use Rattle.std.proofs.Common.{◌≡◌, map, take}
use Rattle.std.specs.List.{range_with_len}
use Rattle.schema_form.specs.Layout.{words_total}
use Rattle.schema_form.proofs.stretches.words_before.Given as goal

abbrev pub invariant-loop-stretch : goal.invariant-loop-stretch
invariant-loop-stretch l = record {
  total : l.total ≡ words_total (take l.stretch-index l.stretches);
  before : l.before.items ≡ map (λ number. words_total (take number l.stretches)) (range_with_len 0 l.stretch-index);
}

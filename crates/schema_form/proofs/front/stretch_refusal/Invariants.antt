use Rattle.std.proofs.Common.{◌≡◌, ◌-◌, ◌≤◌}
use Rattle.std.specs.List.{find, range_with_len}
use Rattle.schema_form.specs.Layout.{stretches_from, words_total}
use Rattle.schema_form.specs.Refusal.{stretch_offends}
use Rattle.schema_form.proofs.front.stretch_refusal.Given as goal

abbrev pub invariant-loop-number : goal.invariant-loop-number
invariant-loop-number l = record {
  none_yet : find (stretch_offends l.bytes) (range_with_len 0 l.count) ≡ find (stretch_offends l.bytes) (range_with_len l.number (l.count - l.number));
  total : l.total ≡ words_total (stretches_from l.bytes l.number);
  few : l.total ≤ 32768;
}

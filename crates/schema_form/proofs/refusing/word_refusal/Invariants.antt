use Rattle.std.proofs.Common.{◌≡◌, ◌-◌}
use Rattle.std.specs.List.{find, range_with_len}
use Rattle.schema_form.specs.Layout.{words_total}
use Rattle.schema_form.specs.Refusal.{word_offends}
use Rattle.schema_form.proofs.refusing.word_refusal.Given as goal

abbrev pub invariant-loop-place : goal.invariant-loop-place
invariant-loop-place l =
    find (word_offends l.bytes l.stretches l.first) (range_with_len 0 (words_total l.stretches))
    ≡ find (word_offends l.bytes l.stretches l.first) (range_with_len l.place (words_total l.stretches - l.place))

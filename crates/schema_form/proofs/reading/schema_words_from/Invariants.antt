use Rattle.std.proofs.Common.{◌≡◌}
use Rattle.schema_form.specs.Layout.{schema_words_from}
use Rattle.schema_form.proofs.reading.schema_words_from.Given as goal

abbrev pub invariant-loop-place : goal.invariant-loop-place
invariant-loop-place l = l.words.items ≡ schema_words_from l.bytes l.first l.place

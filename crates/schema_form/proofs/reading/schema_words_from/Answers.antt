use Rattle.std.proofs.Common.{[]}
use Rattle.rv_code.proofs.LawsOfRows.{row_more}
use Rattle.schema_form.specs.Layout.{word_offset, schema_word_from}
use Rattle.schema_form.proofs.reading.schema_words_from.Goals as goal

pub loop-place-preserved : goal.loop-place-preserved
loop-place-preserved c =
    row_more (λ place. schema_word_from c.args.bytes.now (word_offset c.args.first place)) [] c.loop-place.words.items c.push.new.self.items c.loop-place.place _
    c.loop-place.invariant c.in_ok-push.ensures.items c.schema_word_from.ensures

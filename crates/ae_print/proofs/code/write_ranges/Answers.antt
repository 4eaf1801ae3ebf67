use Rattle.std.proofs.Common.{◌+◌, get_or, Ok, refl, ap, ◌∙◌}
use Rattle.ae_print.specs.CodeText.{range_lines, word_lines}
use Rattle.ae_nums.proofs.LawsOfWriters.{Puts-none, Puts-both, Puts-front, Puts-same}
use Rattle.ae_print.proofs.Joined.{texts_before, texts_behind, one_more_text, all_texts, texts_split}
use Rattle.ae_print.proofs.code.write_ranges.Goals as goal

pub returns-in_err-write_words : goal.returns-in_err-write_words
returns-in_err-write_words g c =
    let items = c.args.ranges.now in
    let index = c.loop-range.range-index in
    let range = c.range-item.result in
    let both = Puts-both g.met.K.Sink.rest_joins _ _ _ (texts_before range_lines items index) (range_lines (get_or items index range)) _ _ (Ok tt) _
    c.loop-range.invariant refl c.write_words.ensures (ap (word_lines range.start) c.as_slice.ensures ∙ ap range_lines c.range-item.is) in
    let front = Puts-front _ _ (texts_before range_lines items (index + 1)) (texts_behind range_lines items (index + 1)) _ _ c.from_residual.result
    c.in_err-write_words.ensures.broken both (one_more_text range_lines items index range c.loop-range-test.true) in
    Puts-same _ _ _ _ _ front (texts_split range_lines items (index + 1))

pub loop-range-preserved : goal.loop-range-preserved
loop-range-preserved g c =
    let items = c.args.ranges.now in
    let index = c.loop-range.range-index in
    let range = c.range-item.result in
    let both = Puts-both g.met.K.Sink.rest_joins _ _ _ (texts_before range_lines items index) (range_lines (get_or items index range)) _ _ (Ok tt) (Ok tt)
    c.loop-range.invariant refl c.in_ok-write_words.ensures (ap (word_lines range.start) c.as_slice.ensures ∙ ap range_lines c.range-item.is) in
    Puts-same _ _ _ _ (Ok tt) both (one_more_text range_lines items index range c.loop-range-test.true)

pub returns : goal.returns
returns g c = Puts-same _ _ _ _ _ c.loop-range.invariant (all_texts range_lines c.args.ranges.now c.loop-range.range-index c.loop-range-test.false)

pub loop-range-init : goal.loop-range-init
loop-range-init g c = Puts-none _ (g.met.K.Sink.rest_stays _)

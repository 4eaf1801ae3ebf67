use Rattle.std.proofs.Common.{◌+◌, get_or, Ok, refl, ◌∙◌}
use Rattle.ae_print.specs.Spaced.{spaced_word}
use Rattle.ae_nums.proofs.LawsOfWriters.{Puts-none, Puts-both, Puts-front, Puts-same}
use Rattle.ae_print.proofs.Joined.{texts_before, texts_behind, one_more_text, all_texts, texts_split}
use Rattle.ae_print.proofs.spaced.write_spaced.Goals as goal

pub returns-in_err-write : goal.returns-in_err-write
returns-in_err-write g c =
    let items = c.args.words.now in
    let index = c.loop-word.word-index in
    let both = Puts-both g.met.K.Sink.rest_joins _ _ _ (texts_before spaced_word items index) (spaced_word (get_or items index 0)) _ _ (Ok tt) _
    c.loop-word.invariant refl c.write.ensures.puts (c.bytes.ensures.same ∙ c.spaced_word.ensures) in
    let front = Puts-front _ _ (texts_before spaced_word items (index + 1)) (texts_behind spaced_word items (index + 1)) _ _ c.from_residual.result
    c.in_err-write.ensures.puts.broken both (one_more_text spaced_word items index 0 c.loop-word-test.true) in
    Puts-same _ _ _ _ _ front (texts_split spaced_word items (index + 1))

pub loop-word-preserved : goal.loop-word-preserved
loop-word-preserved g c =
    let items = c.args.words.now in
    let index = c.loop-word.word-index in
    let both = Puts-both g.met.K.Sink.rest_joins _ _ _ (texts_before spaced_word items index) (spaced_word (get_or items index 0)) _ _ (Ok tt) (Ok tt)
    c.loop-word.invariant refl c.in_ok-write.ensures.puts (c.bytes.ensures.same ∙ c.spaced_word.ensures) in
    Puts-same _ _ _ _ (Ok tt) both (one_more_text spaced_word items index 0 c.loop-word-test.true)

pub returns : goal.returns
returns g c = Puts-same _ _ _ _ _ c.loop-word.invariant (all_texts spaced_word c.args.words.now c.loop-word.word-index c.loop-word-test.false)

pub loop-word-init : goal.loop-word-init
loop-word-init g c = Puts-none _ (g.met.K.Sink.rest_stays _)

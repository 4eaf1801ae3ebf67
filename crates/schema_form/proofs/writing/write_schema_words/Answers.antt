use Rattle.std.proofs.Common.{◌+◌, Ok, refl}
use Rattle.schema_form.specs.Spelling.{schema_word_bytes}
use Rattle.ae_nums.proofs.LawsOfWriters.{Puts-none, Puts-both, Puts-front, Puts-same}
use Rattle.schema_form.proofs.Pieces.{bytes_before, bytes_behind, one_item_more, all_items, items_split}
use Rattle.schema_form.proofs.writing.write_schema_words.Goals as goal

pub returns-in_err-write : goal.returns-in_err-write
returns-in_err-write g c =
    let items = c.args.words.now in
    let index = c.loop-word.word-index in
    let both = Puts-both g.met.K.Sink.rest_joins _ _ _ (bytes_before schema_word_bytes items index) _ _ _ (Ok tt) _
    c.loop-word.invariant refl c.write.ensures.puts c.schema_word_bytes.ensures in
    let front = Puts-front _ _ (bytes_before schema_word_bytes items (index + 1)) (bytes_behind schema_word_bytes items (index + 1)) _ _ c.from_residual.result
    c.in_err-write.ensures.puts.broken both (one_item_more schema_word_bytes items index _ c.loop-word-test.true) in
    Puts-same _ _ _ _ _ front (items_split schema_word_bytes items (index + 1))

pub loop-word-preserved : goal.loop-word-preserved
loop-word-preserved g c =
    let items = c.args.words.now in
    let index = c.loop-word.word-index in
    let both = Puts-both g.met.K.Sink.rest_joins _ _ _ (bytes_before schema_word_bytes items index) _ _ _ (Ok tt) (Ok tt)
    c.loop-word.invariant refl c.in_ok-write.ensures.puts c.schema_word_bytes.ensures in
    Puts-same _ _ _ _ (Ok tt) both (one_item_more schema_word_bytes items index _ c.loop-word-test.true)

pub returns : goal.returns
returns g c = Puts-same _ _ _ _ _ c.loop-word.invariant (all_items schema_word_bytes c.args.words.now c.loop-word.word-index c.loop-word-test.false)

pub loop-word-init : goal.loop-word-init
loop-word-init g c = Puts-none _ (g.met.K.Sink.rest_stays _)

use Rattle.std.proofs.Common.{◌+◌, get_or, Ok, refl, ◌∙◌}
use Rattle.ae_print.specs.GraphText.{shown_byte}
use Rattle.ae_nums.proofs.LawsOfWriters.{Puts-none, Puts-both, Puts-front, Puts-same}
use Rattle.ae_print.proofs.Joined.{texts_before, texts_behind, one_more_text, all_texts, texts_split}
use Rattle.ae_print.proofs.routine_lines.write_name.Goals as goal

pub returns-in_err-write : goal.returns-in_err-write
returns-in_err-write g c =
    let items = c.args.text.now in
    let index = c.loop-byte.byte-index in
    let both = Puts-both g.met.K.Sink.rest_joins _ _ _ (texts_before shown_byte items index) (shown_byte (get_or items index 0)) _ _ (Ok tt) _
    c.loop-byte.invariant refl c.write.ensures.puts (c.bytes.ensures.same ∙ c.text_of_byte.ensures) in
    let front = Puts-front _ _ (texts_before shown_byte items (index + 1)) (texts_behind shown_byte items (index + 1)) _ _ c.from_residual.result
    c.in_err-write.ensures.puts.broken both (one_more_text shown_byte items index 0 c.loop-byte-test.true) in
    Puts-same _ _ _ _ _ front (texts_split shown_byte items (index + 1))

pub loop-byte-preserved : goal.loop-byte-preserved
loop-byte-preserved g c =
    let items = c.args.text.now in
    let index = c.loop-byte.byte-index in
    let both = Puts-both g.met.K.Sink.rest_joins _ _ _ (texts_before shown_byte items index) (shown_byte (get_or items index 0)) _ _ (Ok tt) (Ok tt)
    c.loop-byte.invariant refl c.in_ok-write.ensures.puts (c.bytes.ensures.same ∙ c.text_of_byte.ensures) in
    Puts-same _ _ _ _ (Ok tt) both (one_more_text shown_byte items index 0 c.loop-byte-test.true)

pub returns : goal.returns
returns g c = Puts-same _ _ _ _ _ c.loop-byte.invariant (all_texts shown_byte c.args.text.now c.loop-byte.byte-index c.loop-byte-test.false)

pub loop-byte-init : goal.loop-byte-init
loop-byte-init g c = Puts-none _ (g.met.K.Sink.rest_stays _)

use Rattle.std.proofs.Common.{◌+◌, get_or, Ok, refl, ◌∙◌}
use Rattle.ae_print.specs.GraphText.{step_text}
use Rattle.ae_nums.proofs.LawsOfWriters.{Puts-none, Puts-both, Puts-front, Puts-same}
use Rattle.ae_print.proofs.Joined.{texts_before, texts_behind, one_more_text, all_texts, texts_split}
use Rattle.ae_print.proofs.mark.write_path.Goals as goal

pub returns-in_err-write : goal.returns-in_err-write
returns-in_err-write g c =
    let items = c.args.path.now in
    let index = c.loop-edge.edge-index in
    let both = Puts-both g.met.K.Sink.rest_joins _ _ _ (texts_before step_text items index) (step_text (get_or items index 0)) _ _ (Ok tt) _
    c.loop-edge.invariant refl c.write.ensures.puts (c.bytes.ensures.same ∙ c.text_of_step.ensures) in
    let front = Puts-front _ _ (texts_before step_text items (index + 1)) (texts_behind step_text items (index + 1)) _ _ c.from_residual.result
    c.in_err-write.ensures.puts.broken both (one_more_text step_text items index 0 c.loop-edge-test.true) in
    Puts-same _ _ _ _ _ front (texts_split step_text items (index + 1))

pub loop-edge-preserved : goal.loop-edge-preserved
loop-edge-preserved g c =
    let items = c.args.path.now in
    let index = c.loop-edge.edge-index in
    let both = Puts-both g.met.K.Sink.rest_joins _ _ _ (texts_before step_text items index) (step_text (get_or items index 0)) _ _ (Ok tt) (Ok tt)
    c.loop-edge.invariant refl c.in_ok-write.ensures.puts (c.bytes.ensures.same ∙ c.text_of_step.ensures) in
    Puts-same _ _ _ _ (Ok tt) both (one_more_text step_text items index 0 c.loop-edge-test.true)

pub returns : goal.returns
returns g c = Puts-same _ _ _ _ _ c.loop-edge.invariant (all_texts step_text c.args.path.now c.loop-edge.edge-index c.loop-edge-test.false)

pub loop-edge-init : goal.loop-edge-init
loop-edge-init g c = Puts-none _ (g.met.K.Sink.rest_stays _)

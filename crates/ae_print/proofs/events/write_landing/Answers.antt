use Rattle.std.proofs.Common.{refl, ◌∙◌}
use Rattle.ae_print.specs.Spaced.{spaced_word, spaced_words}
use Rattle.ae_nums.proofs.LawsOfWriters.{Puts-both, Puts-front}
use Rattle.ae_print.proofs.events.write_landing.Goals as goal

pub returns-in_err-write : goal.returns-in_err-write
returns-in_err-write g c =
    Puts-front _ _ (spaced_word c.args.target) (spaced_words c.args.values.now) _ _ c.from_residual.result c.in_err-write.ensures.puts.broken c.write.ensures.puts
    (c.bytes.ensures.same ∙ c.spaced_word.ensures)

pub returns : goal.returns
returns g c =
    Puts-both g.met.K.Sink.rest_joins _ _ _ (spaced_word c.args.target) (spaced_words c.args.values.now) _ _ _ _ c.write.ensures.puts
    (c.bytes.ensures.same ∙ c.spaced_word.ensures) c.write_spaced.ensures refl

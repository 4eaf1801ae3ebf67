use Rattle.std.proofs.Common.{◌∙◌}
use Rattle.ae_print.specs.SchemaText.{ranges_text, words_text}
use Rattle.ae_nums.proofs.LawsOfWriters.{Puts-both, Puts-front}
use Rattle.ae_print.proofs.schema.write_front.Goals as goal

pub returns-in_err-write : goal.returns-in_err-write
returns-in_err-write g c =
    Puts-front _ _ (ranges_text c.args.entry c.args.ranges) (words_text c.args.words) _ _ c.from_residual.result c.in_err-write.ensures.puts.broken c.write.ensures.puts
    (c.bytes.ensures.same ∙ c.ranges_text.ensures)

pub returns : goal.returns
returns g c =
    Puts-both g.met.K.Sink.rest_joins _ _ _ (ranges_text c.args.entry c.args.ranges) (words_text c.args.words) _ _ _ _ c.write.ensures.puts
    (c.bytes.ensures.same ∙ c.ranges_text.ensures) c.write-2.ensures.puts (c.bytes-2.ensures.same ∙ c.words_text.ensures)

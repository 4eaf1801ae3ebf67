use Rattle.std.proofs.Common.{◌∙◌}
use Rattle.ae_print.specs.GraphText.{edge_front, weight_text}
use Rattle.ae_nums.proofs.LawsOfWriters.{Puts-both, Puts-front}
use Rattle.ae_print.proofs.edge_lines.write_to_weight.Goals as goal

pub returns-in_err-write : goal.returns-in_err-write
returns-in_err-write g c =
    Puts-front _ _ (edge_front c.args.number c.args.edge.now) (weight_text c.args.weight) _ _ _ c.in_err-write.ensures.puts.broken
    c.write.ensures.puts (c.bytes.ensures.same ∙ c.front_of_edge.ensures)

pub returns : goal.returns
returns g c =
    Puts-both g.met.K.Sink.rest_joins _ _ _ (edge_front c.args.number c.args.edge.now) (weight_text c.args.weight) _ _ _ _
    c.write.ensures.puts (c.bytes.ensures.same ∙ c.front_of_edge.ensures) c.write-2.ensures.puts (c.bytes-2.ensures.same ∙ c.text_of_weight.ensures)

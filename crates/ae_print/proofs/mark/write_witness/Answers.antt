use Rattle.std.proofs.Common.{refl}
use Rattle.std.specs.Prelude.{codes}
use Rattle.ae_print.specs.GraphText.{path_text}
use Rattle.ae_nums.proofs.LawsOfWriters.{Puts-both, Puts-front}
use Rattle.ae_print.proofs.mark.write_witness.Goals as goal

pub returns-in_err-write : goal.returns-in_err-write
returns-in_err-write g c =
    Puts-front _ _ (codes " witness") (path_text c.args.path.now) _ _ _ c.in_err-write.ensures.puts.broken c.write.ensures.puts refl

pub returns : goal.returns
returns g c =
    Puts-both g.met.K.Sink.rest_joins _ _ _ (codes " witness") (path_text c.args.path.now) _ _ _ _ c.write.ensures.puts refl c.write_path.ensures refl

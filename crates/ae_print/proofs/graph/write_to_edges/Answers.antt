use Rattle.std.proofs.Common.{refl}
use Rattle.ae_print.specs.GraphText.{routine_lines, block_lines}
use Rattle.ae_nums.proofs.LawsOfWriters.{Puts-both, Puts-front}
use Rattle.ae_print.proofs.graph.write_to_edges.Goals as goal

pub returns-in_err-write_routines : goal.returns-in_err-write_routines
returns-in_err-write_routines g c =
    let graph = c.args.graph.now in
    Puts-front _ _ (routine_lines graph.routines) (block_lines graph) _ _ c.from_residual.result c.in_err-write_routines.ensures.broken c.write_routines.ensures refl

pub returns : goal.returns
returns g c =
    let graph = c.args.graph.now in
    Puts-both g.met.K.Sink.rest_joins _ _ _ (routine_lines graph.routines) (block_lines graph) _ _ _ _ c.write_routines.ensures refl c.write_blocks.ensures refl

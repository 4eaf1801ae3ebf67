use Rattle.std.proofs.Common.{◌++◌, refl, ◌∙◌}
use Rattle.ae_nums.specs.Trace.{newline}
use Rattle.ae_print.specs.GraphText.{routine_front, shown_name}
use Rattle.ae_nums.proofs.LawsOfWriters.{Puts-both, Puts-front, Puts-more}
use Rattle.ae_print.proofs.routine_lines.write_routine.Goals as goal

pub returns-in_err-write : goal.returns-in_err-write
returns-in_err-write g c =
    let broken = c.in_err-write.ensures.puts.broken in
    let front = Puts-front _ _ (routine_front c.args.address) (shown_name c.args.text.now) _ _ c.from_residual.result
    broken c.write.ensures.puts (c.bytes.ensures.same ∙ c.front_of_routine.ensures) in
    Puts-more _ _ _ newline _ broken front

pub returns-in_err-write_name : goal.returns-in_err-write_name
returns-in_err-write_name g c =
    let both = Puts-both g.met.K.Sink.rest_joins _ _ _ (routine_front c.args.address) (shown_name c.args.text.now) _ _ _ _
    c.write.ensures.puts (c.bytes.ensures.same ∙ c.front_of_routine.ensures) c.write_name.ensures refl in
    Puts-front _ _ (routine_front c.args.address ++ shown_name c.args.text.now) newline _ _ _ c.in_err-write_name.ensures.broken both refl

pub returns : goal.returns
returns g c =
    let both = Puts-both g.met.K.Sink.rest_joins _ _ _ (routine_front c.args.address) (shown_name c.args.text.now) _ _ _ _
    c.write.ensures.puts (c.bytes.ensures.same ∙ c.front_of_routine.ensures) c.write_name.ensures refl in
    Puts-both g.met.K.Sink.rest_joins _ _ _ (routine_front c.args.address ++ shown_name c.args.text.now) newline _ _ _ _
    both refl c.write-2.ensures.puts refl

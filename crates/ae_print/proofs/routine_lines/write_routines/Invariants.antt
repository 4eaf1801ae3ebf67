use Rattle.std.proofs.Common.{Ok}
use Rattle.ae_nums.specs.Writer.{Puts}
use Rattle.ae_print.specs.GraphText.{routine_line}
use Rattle.ae_print.proofs.Joined.{texts_before}
use Rattle.ae_print.proofs.routine_lines.write_routines.Given as goal

abbrev pub invariant-loop-number : goal.invariant-loop-number
invariant-loop-number g l =
    Puts g.K.Sink.told g.K.Sink.faults g.K.Sink.same_rest l.initial.lines l.lines (texts_before routine_line l.graph.routines l.number) (Ok tt)

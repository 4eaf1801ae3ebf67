use Rattle.std.proofs.Common.{Ok}
use Rattle.ae_nums.specs.Writer.{Puts}
use Rattle.ae_print.specs.GraphText.{step_text}
use Rattle.ae_print.proofs.Joined.{texts_before}
use Rattle.ae_print.proofs.mark.write_path.Given as goal

abbrev pub invariant-loop-edge : goal.invariant-loop-edge
invariant-loop-edge g l =
    Puts g.K.Sink.told g.K.Sink.faults g.K.Sink.same_rest l.initial.lines l.lines (texts_before step_text l.path l.edge-index) (Ok tt)

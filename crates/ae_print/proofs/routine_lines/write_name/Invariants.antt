use Rattle.std.proofs.Common.{Ok}
use Rattle.ae_nums.specs.Writer.{Puts}
use Rattle.ae_print.specs.GraphText.{shown_byte}
use Rattle.ae_print.proofs.Joined.{texts_before}
use Rattle.ae_print.proofs.routine_lines.write_name.Given as goal

abbrev pub invariant-loop-byte : goal.invariant-loop-byte
invariant-loop-byte g l =
    Puts g.K.Sink.told g.K.Sink.faults g.K.Sink.same_rest l.initial.lines l.lines (texts_before shown_byte l.text l.byte-index) (Ok tt)

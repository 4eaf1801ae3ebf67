use Rattle.std.proofs.Common.{Ok}
use Rattle.ae_nums.specs.Writer.{Puts}
use Rattle.ae_print.specs.CodeText.{range_lines}
use Rattle.ae_print.proofs.Joined.{texts_before}
use Rattle.ae_print.proofs.code.write_ranges.Given as goal

abbrev pub invariant-loop-range : goal.invariant-loop-range
invariant-loop-range g l =
    Puts g.K.Sink.told g.K.Sink.faults g.K.Sink.same_rest l.initial.lines l.lines (texts_before range_lines l.ranges l.range-index) (Ok tt)

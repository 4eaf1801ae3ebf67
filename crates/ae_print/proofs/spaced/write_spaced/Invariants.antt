use Rattle.std.proofs.Common.{Ok}
use Rattle.ae_nums.specs.Writer.{Puts}
use Rattle.ae_print.specs.Spaced.{spaced_word}
use Rattle.ae_print.proofs.Joined.{texts_before}
use Rattle.ae_print.proofs.spaced.write_spaced.Given as goal

abbrev pub invariant-loop-word : goal.invariant-loop-word
invariant-loop-word g l =
    Puts g.K.Sink.told g.K.Sink.faults g.K.Sink.same_rest l.initial.lines l.lines (texts_before spaced_word l.words l.word-index) (Ok tt)

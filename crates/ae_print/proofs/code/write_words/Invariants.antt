use Rattle.std.proofs.Common.{◌≡◌, ◌+◌, ◌*◌, Ok}
use Rattle.ae_nums.specs.Writer.{Puts}
use Rattle.rv_code.specs.Numbers.{wrap}
use Rattle.ae_print.specs.CodeText.{word_line}
use Rattle.ae_print.proofs.Rows.{lines_before}
use Rattle.ae_print.proofs.code.write_words.Given as goal

abbrev pub invariant-loop-word : goal.invariant-loop-word
invariant-loop-word g l =
    (l.address ≡ wrap (l.start + 4 * l.word-index))
    × Puts g.K.Sink.told g.K.Sink.faults g.K.Sink.same_rest l.initial.lines l.lines (lines_before (word_line l.start) l.words l.word-index) (Ok tt)

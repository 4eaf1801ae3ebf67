use Rattle.std.proofs.Common.{Ok}
use Rattle.ae_nums.specs.Writer.{Puts}
use Rattle.ae_print.specs.SchemaText.{schema_line_at}
use Rattle.ae_print.proofs.Rows.{lines_before}
use Rattle.ae_print.proofs.schema.write_words.Given as goal

abbrev pub invariant-loop-place : goal.invariant-loop-place
invariant-loop-place g l =
    Puts g.K.Sink.told g.K.Sink.faults g.K.Sink.same_rest l.initial.lines l.lines (lines_before (schema_line_at l.schema) l.words l.place) (Ok tt)

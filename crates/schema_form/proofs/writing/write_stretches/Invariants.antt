use Rattle.std.proofs.Common.{Ok}
use Rattle.ae_nums.specs.Writer.{Puts}
use Rattle.schema_form.specs.Spelling.{stretch_bytes}
use Rattle.schema_form.proofs.Pieces.{bytes_before}
use Rattle.schema_form.proofs.writing.write_stretches.Given as goal

abbrev pub invariant-loop-stretch : goal.invariant-loop-stretch
invariant-loop-stretch g l =
    Puts g.K.Sink.told g.K.Sink.faults g.K.Sink.same_rest l.initial.bytes l.bytes (bytes_before stretch_bytes l.stretches l.stretch-index) (Ok tt)

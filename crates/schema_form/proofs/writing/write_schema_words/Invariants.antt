use Rattle.std.proofs.Common.{Ok}
use Rattle.ae_nums.specs.Writer.{Puts}
use Rattle.schema_form.specs.Spelling.{schema_word_bytes}
use Rattle.schema_form.proofs.Pieces.{bytes_before}
use Rattle.schema_form.proofs.writing.write_schema_words.Given as goal

abbrev pub invariant-loop-word : goal.invariant-loop-word
invariant-loop-word g l =
    Puts g.K.Sink.told g.K.Sink.faults g.K.Sink.same_rest l.initial.bytes l.bytes (bytes_before schema_word_bytes l.words l.word-index) (Ok tt)

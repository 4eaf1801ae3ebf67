use Rattle.ae_nums.proofs.Written.{puts}
use Rattle.ae_nums.proofs.writer.LineWriter.write.Goals as goal

pub returns-clause-puts : goal.returns-clause-puts
returns-clause-puts g c =
    puts g.K.Sink.told g.K.Sink.faults g.K.Sink.same_rest _ _ _ c.gather.result c.gather.ensures.ok c.gather.ensures.err c.gather.ensures.broken c.gather.ensures.rest

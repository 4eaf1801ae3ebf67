use Rattle.ae_nums.proofs.Written.{finishes}
use Rattle.ae_nums.proofs.writer.LineWriter.finish.Goals as goal

pub returns-clause-finished : goal.returns-clause-finished
returns-clause-finished g c = λ start text written.
    finishes g.K.Sink.told g.K.Sink.faults _ _ start text c.hand_on.result c.hand_on.ensures.empty c.hand_on.ensures.whole c.hand_on.ensures.broken c.hand_on.ensures.written written

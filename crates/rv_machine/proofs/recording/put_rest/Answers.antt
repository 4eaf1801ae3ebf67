use Rattle.rv_memory.specs.Stretches.{memory_of}
use Rattle.rv_machine.specs.Events.{drained, end_of_run}
use Rattle.rv_machine.proofs.Recorded.{front_behind}
use Rattle.rv_machine.proofs.recording.put_rest.Goals as goal

pub returns-clause-front : goal.returns-clause-front
returns-clause-front g c =
    front_behind (g.Q.Sink.told c.args.events.now) (g.Q.Sink.told c.drain.new.events) (g.Q.Sink.told c.put_end.new.events)
    (drained c.args.note.now (memory_of c.args.memory.now)) (end_of_run c.args.note.now c.args.pc c.args.ending) c.put_end.result c.in_ok-drain.ensures.all
    c.put_end.ensures.front

use Rattle.std.proofs.Common.{◌≡◌}
use Rattle.rv_memory.specs.Stretches.{memory_of}
use Rattle.rv_machine.proofs.Sent.{IsSent}
use Rattle.rv_machine.proofs.buffers.send.Given as goal

abbrev pub invariant-loop-left : goal.invariant-loop-left
invariant-loop-left g l = record {
  sent : IsSent (memory_of l.memory) l.fn.address l.fn.count l.here l.left (g.K.Sink.told l.fn.sink) (g.K.Sink.told l.sink);
  same : g.K.Sink.faults l.sink ≡ g.K.Sink.faults l.fn.sink;
  rest : g.K.Sink.same_rest l.fn.sink l.sink;
}

abbrev pub decreases-loop-left : goal.decreases-loop-left
decreases-loop-left g l = l.left

use Rattle.std.proofs.Common.{length, ◌-◌, ◌≡◌, ◌≤◌, take}
use Rattle.ae_ports.specs.Content.{Appends}
use Rattle.ae_ports.proofs.whole.write_all.Given as goal

abbrev pub invariant-loop-sent : goal.invariant-loop-sent
invariant-loop-sent g l = record {
  within : l.sent ≤ length l.bytes;
  sent : Appends (g.K.Sink.told l.initial.sink) (g.K.Sink.told l.sink) (take l.sent l.bytes);
  same : g.K.Sink.faults l.sink ≡ g.K.Sink.faults l.initial.sink;
  rest : g.K.Sink.same_rest l.initial.sink l.sink;
}

abbrev pub decreases-loop-sent : goal.decreases-loop-sent
decreases-loop-sent g l = length l.bytes - l.sent

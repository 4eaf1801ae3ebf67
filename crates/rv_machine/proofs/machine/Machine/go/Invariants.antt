use Rattle.std.proofs.Common.{◌≡◌}
use Rattle.rv_machine.specs.Inner.Advance.{at}
use Rattle.rv_machine.proofs.Gone.{HasGone}
use Rattle.rv_machine.proofs.machine.Machine.go.Given as goal

abbrev pub invariant-loop-made : goal.invariant-loop-made
invariant-loop-made g l = record {
  gone : HasGone (g.K.Taker.took l.fn.items l.items) l.fn.self
      (record { input = g.I.Source.told l.fn.input; out = g.O.Sink.told l.fn.out; err = g.P.Sink.told l.fn.err; events = g.Q.Sink.told l.fn.events })
      l.fuel l._made (at l.pc l.self)
      (record { input = g.I.Source.told l.input; out = g.O.Sink.told l.out; err = g.P.Sink.told l.err; events = g.Q.Sink.told l.events });
  faults_input : g.I.Source.faults l.input ≡ g.I.Source.faults l.fn.input;
  faults_out : g.O.Sink.faults l.out ≡ g.O.Sink.faults l.fn.out;
  faults_err : g.P.Sink.faults l.err ≡ g.P.Sink.faults l.fn.err;
  faults_events : g.Q.Sink.faults l.events ≡ g.Q.Sink.faults l.fn.events;
  faults_items : g.K.Taker.faults l.items ≡ g.K.Taker.faults l.fn.items;
  input : g.I.Source.same_rest l.fn.input l.input;
  out : g.O.Sink.same_rest l.fn.out l.out;
  err : g.P.Sink.same_rest l.fn.err l.err;
  events : g.Q.Sink.same_rest l.fn.events l.events;
  items : g.K.Taker.same_rest l.fn.items l.items;
}

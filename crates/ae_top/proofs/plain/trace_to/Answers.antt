use Rattle.std.proofs.Common.{◌≡◌, [], Result, Err, rules, subst, sym, refl}
use Rattle.ae_nums.proofs.LawsOfTraces.{AppendsFront-items}
use Rattle.ae_nums.specs.Trace.{trace_text}
use Rattle.rv_machine.specs.declared.outcome.MachineFault.{MachineFault}
use Rattle.rv_machine.specs.declared.outcome.Outcome.{Outcome}
use Rattle.rv_machine.specs.Outcomes.{run_in, items_in_run}
use Rattle.ae_top.specs.Inner.Machine.{RanMachine}
use Rattle.ae_top.specs.Inner.Tracing.{TraceGot}
use Rattle.ae_top.specs.World.{Streams, port, streams}
use Rattle.ae_top.proofs.Blamed.{blamed, unblamed}
use Rattle.ae_top.proofs.Ran.{ran_told, ran_failed, ran_untold, shows_told, blames_told, blames_failed, blames_unserved, tells_no_event}
use Rattle.ae_top.proofs.Traced.{got_all, got_at, blames_at}
use Rattle.ae_top.proofs.plain.trace_to.Goals as goal

-- a device failed in the midst of the run
pub returns-in_err-outcome-clause-ran : goal.returns-in_err-outcome-clause-ran
returns-in_err-outcome-clause-ran g c =
    let before : Streams = streams (port (g.I.Source.told c.args.input.now) (g.I.Source.faults c.args.input.now))
    (port (g.O.Sink.told c.args.out.now) (g.O.Sink.faults c.args.out.now)) (port (g.P.Sink.told c.args.err.now) (g.P.Sink.faults c.args.err.now)) in
    let now : Streams = streams (port (g.I.Source.told c.trace.new.input) (g.I.Source.faults c.trace.new.input))
    (port (g.O.Sink.told c.trace.new.out) (g.O.Sink.faults c.trace.new.out)) (port (g.P.Sink.told c.trace.new.err) (g.P.Sink.faults c.trace.new.err)) in
    let items = g.K.Sink.faults c.new-lines.result.sink.now in
    let items_now = g.K.Sink.faults c.trace.new.items.sink.now in
    let fault = c.in_err-outcome.field-0.0 in
    let is : c.from_residual.result ≡ Err fault = search rules in
    let passes = c.in_err-outcome.ensures.passes c.requires.ready in
    subst (λ (answer : Result Outcome MachineFault). RanMachine c.args.machine.now c.args.fuel answer before now) (sym is)
    (record {
      ran = λ bytes told. ran_failed (run_in c.args.machine.now bytes c.args.fuel) before now (c.in_err-outcome.ensures.run c.requires.ready bytes told).0;
      shows = (passes.0.err, passes.1.err);
      blames = blames_failed fault before now items items_now (c.in_err-outcome.ensures.cause c.requires.ready);
    })

pub returns-in_err-outcome-clause-lines : goal.returns-in_err-outcome-clause-lines
returns-in_err-outcome-clause-lines g c = λ bytes told.
    let sink = g.K.Sink.told c.args.sink.now in
    let sink_now = g.K.Sink.told c.trace.new.items.sink.now in
    let fault = c.in_err-outcome.field-0.0 in
    let is : c.from_residual.result ≡ Err fault = search rules in
    let items = items_in_run c.args.machine.now bytes c.args.fuel in
    let took = (c.in_err-outcome.ensures.run c.requires.ready bytes told).1 in
    let written = took.2.behind c.args.sink.now [] c.new-lines.ensures.begun in
    got_at c.from_residual.result (trace_text items) sink sink_now _ (search rules)
    (subst (λ (answer : Result Outcome MachineFault). TraceGot answer (trace_text items) sink sink_now) (sym is)
    (AppendsFront-items sink sink_now items took.0 written.front))

-- the run was made, and its last lines couldn't be handed on
pub returns-in-Err-clause-ran : goal.returns-in-Err-clause-ran
returns-in-Err-clause-ran g c =
    let before : Streams = streams (port (g.I.Source.told c.args.input.now) (g.I.Source.faults c.args.input.now))
    (port (g.O.Sink.told c.args.out.now) (g.O.Sink.faults c.args.out.now)) (port (g.P.Sink.told c.args.err.now) (g.P.Sink.faults c.args.err.now)) in
    let now : Streams = streams (port (g.I.Source.told c.trace.new.input) (g.I.Source.faults c.trace.new.input))
    (port (g.O.Sink.told c.trace.new.out) (g.O.Sink.faults c.trace.new.out)) (port (g.P.Sink.told c.trace.new.err) (g.P.Sink.faults c.trace.new.err)) in
    let items = g.K.Sink.faults c.new-lines.result.sink.now in
    let items_now = g.K.Sink.faults c.trace.new.items.sink.now in
    let passes = c.in_ok-outcome.ensures.passes c.requires.ready in
    record {
      ran = λ bytes told. ran_untold (run_in c.args.machine.now bytes c.args.fuel) c.trace.new.self before now (c.in_ok-outcome.ensures.run c.requires.ready bytes told).1;
      shows = (passes.0.err, passes.1.err);
      blames = blames_unserved before now items items_now (c.in_ok-outcome.ensures.cause c.requires.ready);
    }

pub returns-in-Err-clause-lines : goal.returns-in-Err-clause-lines
returns-in-Err-clause-lines g c = λ bytes told.
    let sink = g.K.Sink.told c.args.sink.now in
    let sink_now = g.K.Sink.told c.finish.new.self.sink.now in
    let items = items_in_run c.args.machine.now bytes c.args.fuel in
    let took = (c.in_ok-outcome.ensures.run c.requires.ready bytes told).2 in
    let written = took.behind c.args.sink.now [] c.new-lines.ensures.begun in
    got_at (Err MachineFault.EventFault) (trace_text items) sink sink_now _ (search rules) (c.in-Err.ensures.finished c.args.sink.now (trace_text items) written).front

pub returns-in-Err-clause-blames : goal.returns-in-Err-clause-blames
returns-in-Err-clause-blames g c =
    let faults = g.K.Sink.faults c.args.sink.now in
    let faults_now = g.K.Sink.faults c.finish.new.self.sink.now in
    let took = c.in_ok-outcome.ensures.took c.requires.ready in
    let written = took.1.behind c.args.sink.now [] c.new-lines.ensures.begun in
    let cause = (c.in-Err.ensures.finished c.args.sink.now (trace_text took.0) written).cause in
    blames_at _ faults faults_now _ (search rules) (blamed _ faults faults_now refl cause.later cause.risen)

-- all lines were handed on, and then came the line of the ending
pub returns-in-Ok-clause-ran : goal.returns-in-Ok-clause-ran
returns-in-Ok-clause-ran g c =
    let before : Streams = streams (port (g.I.Source.told c.args.input.now) (g.I.Source.faults c.args.input.now))
    (port (g.O.Sink.told c.args.out.now) (g.O.Sink.faults c.args.out.now)) (port (g.P.Sink.told c.args.err.now) (g.P.Sink.faults c.args.err.now)) in
    let now : Streams = streams (port (g.I.Source.told c.trace.new.input) (g.I.Source.faults c.trace.new.input))
    (port (g.O.Sink.told c.trace.new.out) (g.O.Sink.faults c.trace.new.out)) (port (g.P.Sink.told c.tell_end.new.err) (g.P.Sink.faults c.tell_end.new.err)) in
    let items = g.K.Sink.faults c.new-lines.result.sink.now in
    let items_now = g.K.Sink.faults c.trace.new.items.sink.now in
    let mid = g.P.Sink.told c.trace.new.err in
    let outcome = c.in_ok-outcome.outcome in
    let answer = c.tell_end.result in
    let tells = c.tell_end.ensures.tells in
    let passes = c.in_ok-outcome.ensures.passes c.requires.ready in
    record {
      ran = λ bytes told. let ran = c.in_ok-outcome.ensures.run c.requires.ready bytes told in
          ran_told (run_in c.args.machine.now bytes c.args.fuel) c.trace.new.self outcome answer before now mid ran.0 ran.1 tells;
      shows = shows_told outcome answer before.err.told mid now.err.told passes.0.err passes.1.err tells;
      blames = blames_told outcome answer before now (g.P.Sink.faults c.trace.new.err) mid now.err.told items items_now tells
          (c.in_ok-outcome.ensures.cause c.requires.ready) c.tell_end.ensures.blames;
    }

pub returns-in-Ok-clause-lines : goal.returns-in-Ok-clause-lines
returns-in-Ok-clause-lines g c = λ bytes told.
    let sink = g.K.Sink.told c.args.sink.now in
    let sink_now = g.K.Sink.told c.finish.new.self.sink.now in
    let items = items_in_run c.args.machine.now bytes c.args.fuel in
    let took = (c.in_ok-outcome.ensures.run c.requires.ready bytes told).2 in
    let written = took.behind c.args.sink.now [] c.new-lines.ensures.begun in
    got_at c.tell_end.result (trace_text items) sink sink_now _ (search rules)
    (got_all c.tell_end.result (trace_text items) sink sink_now (c.in-Ok.ensures.finished c.args.sink.now (trace_text items) written).all)

pub returns-in-Ok-clause-blames : goal.returns-in-Ok-clause-blames
returns-in-Ok-clause-blames g c =
    let faults = g.K.Sink.faults c.args.sink.now in
    let faults_now = g.K.Sink.faults c.finish.new.self.sink.now in
    let took = c.in_ok-outcome.ensures.took c.requires.ready in
    let written = took.1.behind c.args.sink.now [] c.new-lines.ensures.begun in
    let cause = (c.in-Ok.ensures.finished c.args.sink.now (trace_text took.0) written).cause in
    blames_at _ faults faults_now _ (search rules)
    (unblamed _ faults faults_now (tells_no_event c.in_ok-outcome.outcome c.tell_end.result (g.P.Sink.told c.trace.new.err) (g.P.Sink.told c.tell_end.new.err) c.tell_end.ensures.tells) cause.same)

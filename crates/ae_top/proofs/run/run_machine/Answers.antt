use Rattle.rv_machine.specs.Outcomes.{run_in}
use Rattle.ae_top.specs.World.{Streams, port, streams}
use Rattle.ae_top.proofs.Ran.{ran_told, shows_told, blames_told}
use Rattle.ae_top.proofs.run.run_machine.Goals as goal

pub returns-clause-ran : goal.returns-clause-ran
returns-clause-ran g c =
    let before : Streams = streams (port (g.I.Source.told c.args.input.now) (g.I.Source.faults c.args.input.now))
    (port (g.O.Sink.told c.args.out.now) (g.O.Sink.faults c.args.out.now)) (port (g.P.Sink.told c.args.err.now) (g.P.Sink.faults c.args.err.now)) in
    let now : Streams = streams (port (g.I.Source.told c.run.new.input) (g.I.Source.faults c.run.new.input))
    (port (g.O.Sink.told c.run.new.out) (g.O.Sink.faults c.run.new.out)) (port (g.P.Sink.told c.tell_end.new.err) (g.P.Sink.faults c.tell_end.new.err)) in
    let mid = g.P.Sink.told c.run.new.err in
    let outcome = c.in_ok-outcome.outcome in
    let answer = c.tell_end.result in
    let tells = c.tell_end.ensures.tells in
    let passes = c.in_ok-outcome.ensures.passes c.requires in
    record {
      ran = λ bytes told. let ran = c.in_ok-outcome.ensures.run c.requires bytes told in
          ran_told (run_in c.args.machine.now bytes c.args.fuel) c.run.new.self outcome answer before now mid ran.0 ran.1 tells;
      shows = shows_told outcome answer before.err.told mid now.err.told passes.0.err passes.1.err tells;
      blames = blames_told outcome answer before now (g.P.Sink.faults c.run.new.err) mid now.err.told 0 0 tells (c.in_ok-outcome.ensures.cause c.requires) c.tell_end.ensures.blames;
    }

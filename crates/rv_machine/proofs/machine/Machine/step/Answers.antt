use Rattle.std.proofs.Common.{rules, ap}
use Rattle.rv_machine.specs.Held.{Held, Outside, program_in, state_of}
use Rattle.rv_machine.specs.Ports.{Told, tells}
use Rattle.rv_machine.specs.Step.{StepOutcome, step_of}
use Rattle.rv_machine.proofs.Advanced.{stepped, advances_pass}
use Rattle.rv_machine.proofs.machine.Machine.step.Goals as goal

pub returns-in-None : goal.returns-in-None
returns-in-None g c =
    let outcome : Outside → StepOutcome = λ outside. step_of (program_in c.args.self.now) (state_of c.args.self.now outside) in
    let told : Told = tells (g.I.Source.told c.args.input.now) (g.O.Sink.told c.args.out.now) (g.P.Sink.told c.args.err.now) (g.Q.Sink.told c.args.events.now) in
    let told_now : Told = tells (g.I.Source.told c.advance-result.new.input) (g.O.Sink.told c.advance-result.new.out) (g.P.Sink.told c.advance-result.new.err) (g.Q.Sink.told c.advance-result.new.events) in
    let m = c.self-in-None.inside in
    let now : Held = record { code = m.loaded.code; note = m.note; pc = m.pc; registers = m.registers; memory = m.loaded.memory; kept = c.kept_by_step-self-inside.result } in
    record {
      step = λ running bytes known.
          stepped c.args.self.now c.advance-result.new.self now told told_now c.advance-result.result bytes known c.advance-result.ensures.advances
          (λ outside. ap (λ (h : Held). state_of h outside) c.self-in-None.view_is);
      seen = λ running. c.advance-result.ensures.shows;
      passes = λ running. advances_pass outcome c.args.self.now told c.advance-result.result c.advance-result.new.self told_now c.advance-result.ensures.advances;
      cause = λ running. c.advance-result.ensures.cause;
      keeps = search rules;
      again = search rules;
      program = search rules;
      note = search rules;
      outline = search rules;
      rests = search rules;
    }

use Rattle.std.proofs.Common.{◌≢◌, arith}
use Rattle.rv_machine.specs.Effect.{Out, Err, Events}
use Rattle.rv_machine.specs.Ports.{Told}
use Rattle.rv_machine.specs.declared.outcome.MachineFault.TheVariants.{OutFault, ErrFault, EventFault}
use Rattle.rv_machine.proofs.Called.{answered, gave, to_out, to_err, to_events, to_none}
use Rattle.rv_machine.proofs.machine.Machine.call_write.Goals as goal

pub returns-in-1-clause-acts : goal.returns-in-1-clause-acts
returns-in-1-clause-acts g c = λ input.
    let told : Told = record { input = input; out = g.O.Sink.told c.args.out.now; err = g.P.Sink.told c.args.err.now; events = g.Q.Sink.told c.args.events.now } in
    gave Out c.args.self.now c.give.new.self told _ c.has_mapped_buffer.result _ c.give.result OutFault c.went_unless_failed.result _
    (to_out c.args.self.now c.register.result c.register.ensures c.has_mapped_buffer.result c.in-1.is c.has_mapped_buffer.ensures) c.give.ensures.gave
    c.went_unless_failed.ensures.ok c.went_unless_failed.ensures.failed

pub returns-in-2-clause-acts : goal.returns-in-2-clause-acts
returns-in-2-clause-acts g c = λ input.
    let told : Told = record { input = input; out = g.O.Sink.told c.args.out.now; err = g.P.Sink.told c.args.err.now; events = g.Q.Sink.told c.args.events.now } in
    gave Err c.args.self.now c.give-in-2.new.self told _ c.has_mapped_buffer-in-2.result _ c.give-in-2.result ErrFault c.went_unless_failed-in-2.result _
    (to_err c.args.self.now c.register.result c.register.ensures c.has_mapped_buffer-in-2.result c.in-2.is c.has_mapped_buffer-in-2.ensures) c.give-in-2.ensures.gave
    c.went_unless_failed-in-2.ensures.ok c.went_unless_failed-in-2.ensures.failed

pub returns-in-3-clause-acts : goal.returns-in-3-clause-acts
returns-in-3-clause-acts g c = λ input.
    let told : Told = record { input = input; out = g.O.Sink.told c.args.out.now; err = g.P.Sink.told c.args.err.now; events = g.Q.Sink.told c.args.events.now } in
    gave Events c.args.self.now c.give-in-3.new.self told _ c.may_give_events.result _ c.give-in-3.result EventFault c.went_unless_failed-in-3.result _
    (to_events c.args.self.now c.register.result c.register.ensures c.may_give_events.result c.in-3.is c.may_give_events.ensures) c.give-in-3.ensures.gave
    c.went_unless_failed-in-3.ensures.ok c.went_unless_failed-in-3.ensures.failed

pub returns-in_default-clause-acts : goal.returns-in_default-clause-acts
returns-in_default-clause-acts g c = λ input.
    let no_one : c.register.result ≢ 1 = omega arith in
    let no_two : c.register.result ≢ 2 = omega arith in
    let no_three : c.register.result ≢ 3 = omega arith in
    answered c.args.self.now c.set_and_go_on.new.self _ _ _ (to_none c.args.self.now c.register.result c.register.ensures no_one no_two no_three) c.set_and_go_on.ensures

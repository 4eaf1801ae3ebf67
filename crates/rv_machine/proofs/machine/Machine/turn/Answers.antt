use Rattle.std.proofs.Common.{List, subst, ap, ◌∙◌, Ok}
use Rattle.ae_nums.specs.declared.item.Item.{Item}
use Rattle.rv_machine.specs.Held.{Outside, program_in, state_of}
use Rattle.rv_machine.specs.Outcomes.{items_in}
use Rattle.rv_machine.specs.Ports.{Told}
use Rattle.rv_machine.specs.Step.{StepOutcome, step_of}
use Rattle.rv_machine.specs.Inner.Advance.{Advances}
use Rattle.rv_machine.proofs.Advanced.{advances_pass}
use Rattle.rv_machine.proofs.Gone.{breaks, ended_but, fails}
use Rattle.rv_machine.proofs.machine.Machine.turn.Goals as goal

pub returns-in_err-seen-clause-turns : goal.returns-in_err-seen-clause-turns
returns-in_err-seen-clause-turns g c =
    let outcome : Outside → StepOutcome = λ outside. step_of (program_in c.args.self.now) (state_of c.args.self.now outside) in
    let told : Told = record { input = g.I.Source.told c.args.input.now; out = g.O.Sink.told c.args.out.now; err = g.P.Sink.told c.args.err.now; events = g.Q.Sink.told c.args.events.now } in
    let told_now : Told = record { input = g.I.Source.told c.advance.new.input; out = g.O.Sink.told c.advance.new.out; err = g.P.Sink.told c.advance.new.err; events = g.Q.Sink.told c.advance.new.events } in
    let took : List Item → Type 0 = g.K.Taker.took c.args.items.now c.args.items.now in
    let broke = subst (λ r. Advances outcome c.args.self.now told r c.advance.new.self told_now) c.in_err-seen.was c.advance.ensures.advances in
    fails outcome c.args.self.now c.advance.new.self told told_now took c.from_residual.result c.from_residual.ensures.0
    (breaks outcome c.args.self.now c.advance.new.self told told_now took broke (g.met.K.Taker.took_nothing c.args.items.now))

pub returns-in_err-give_items-in-Ended-clause-turns : goal.returns-in_err-give_items-in-Ended-clause-turns
returns-in_err-give_items-in-Ended-clause-turns g c =
    let outcome : Outside → StepOutcome = λ outside. step_of (program_in c.args.self.now) (state_of c.args.self.now outside) in
    let told : Told = record { input = g.I.Source.told c.args.input.now; out = g.O.Sink.told c.args.out.now; err = g.P.Sink.told c.args.err.now; events = g.Q.Sink.told c.args.events.now } in
    let told_now : Told = record { input = g.I.Source.told c.advance.new.input; out = g.O.Sink.told c.advance.new.out; err = g.P.Sink.told c.advance.new.err; events = g.Q.Sink.told c.advance.new.events } in
    let took : List Item → Type 0 = g.K.Taker.took c.args.items.now c.give_items-in-Ended.new.items in
    let seen = c.in-Ended.seen in
    let stops = subst (λ r. Advances outcome c.args.self.now told r c.advance.new.self told_now) (c.in_ok-seen.was ∙ ap Ok c.in-Ended.is) c.advance.ensures.advances in
    fails outcome c.args.self.now c.advance.new.self told told_now took c.from_residual-in_err-give_items-in-Ended.result c.from_residual-in_err-give_items-in-Ended.ensures.0
    (ended_but outcome c.args.self.now c.advance.new.self told told_now c.in-Ended.ending (items_in seen) took stops c.in_err-give_items-in-Ended.ensures.front)

pub returns-in_err-give_items-in-Ended-clause-passes : goal.returns-in_err-give_items-in-Ended-clause-passes
returns-in_err-give_items-in-Ended-clause-passes g c =
    let outcome : Outside → StepOutcome = λ outside. step_of (program_in c.args.self.now) (state_of c.args.self.now outside) in
    let told : Told = record { input = g.I.Source.told c.args.input.now; out = g.O.Sink.told c.args.out.now; err = g.P.Sink.told c.args.err.now; events = g.Q.Sink.told c.args.events.now } in
    let told_now : Told = record { input = g.I.Source.told c.advance.new.input; out = g.O.Sink.told c.advance.new.out; err = g.P.Sink.told c.advance.new.err; events = g.Q.Sink.told c.advance.new.events } in
    advances_pass outcome c.args.self.now told c.advance.result c.advance.new.self told_now c.advance.ensures.advances

pub returns-in_ok-give_items-in-Ended-clause-passes : goal.returns-in_ok-give_items-in-Ended-clause-passes
returns-in_ok-give_items-in-Ended-clause-passes g c =
    let outcome : Outside → StepOutcome = λ outside. step_of (program_in c.args.self.now) (state_of c.args.self.now outside) in
    let told : Told = record { input = g.I.Source.told c.args.input.now; out = g.O.Sink.told c.args.out.now; err = g.P.Sink.told c.args.err.now; events = g.Q.Sink.told c.args.events.now } in
    let told_now : Told = record { input = g.I.Source.told c.advance.new.input; out = g.O.Sink.told c.advance.new.out; err = g.P.Sink.told c.advance.new.err; events = g.Q.Sink.told c.advance.new.events } in
    advances_pass outcome c.args.self.now told c.advance.result c.advance.new.self told_now c.advance.ensures.advances

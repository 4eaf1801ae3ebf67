use Rattle.std.proofs.Common.{◌≡◌, refl, ap}
use Rattle.rv_machine.specs.Held.{Held}
use Rattle.rv_machine.specs.Ports.{Told}
use Rattle.rv_machine.proofs.Advanced.{meant_at, no_word, no_word_at, no_word_shows, word_advances, word_shows}
use Rattle.rv_machine.proofs.machine.Machine.advance.Goals as goal

pub returns-in_default-clause-advances : goal.returns-in_default-clause-advances
returns-in_default-clause-advances g c =
    let told : Told = record { input = g.I.Source.told c.args.input.now; out = g.O.Sink.told c.args.out.now; err = g.P.Sink.told c.args.err.now; events = g.Q.Sink.told c.args.events.now } in
    let here : c.self.inside.pc ≡ c.args.self.now.pc = ap (λ (held : Held). held.pc) c.self.view_is in
    no_word c.args.self.now c.fetch.new.self told told c.self.inside.pc here
    (no_word_at c.args.self.now c.self.inside.pc here c.in_default.ensures.instr) c.fetch.ensures.same refl

pub returns-clause-advances : goal.returns-clause-advances
returns-clause-advances g c =
    let told : Told = record { input = g.I.Source.told c.args.input.now; out = g.O.Sink.told c.args.out.now; err = g.P.Sink.told c.args.err.now; events = g.Q.Sink.told c.args.events.now } in
    let told_now : Told = record { input = g.I.Source.told c.act.new.input; out = g.O.Sink.told c.act.new.out; err = g.P.Sink.told c.act.new.err; events = g.Q.Sink.told c.act.new.events } in
    let here : c.self.inside.pc ≡ c.args.self.now.pc = ap (λ (held : Held). held.pc) c.self.view_is in
    let way = meant_at c.args.self.now c.self.inside.pc c.in-Some.instr here c.in-Some.ensures.instr in
    word_advances c.args.self.now c.fetch.new.self c.act.new.self told told_now c.self.inside.pc way.0 c.in-Some.instr c.act.result c.step_with.result
    (λ outside. way.1) c.fetch.ensures.same here way.2 c.act.ensures.acts c.step_with.ensures

pub returns-in_default-clause-shows : goal.returns-in_default-clause-shows
returns-in_default-clause-shows g c = λ outside.
    let here : c.self.inside.pc ≡ c.args.self.now.pc = ap (λ (held : Held). held.pc) c.self.view_is in
    no_word_shows c.args.self.now outside (no_word_at c.args.self.now c.self.inside.pc here c.in_default.ensures.instr outside)

pub returns-clause-shows : goal.returns-clause-shows
returns-clause-shows g c = λ outside.
    let here : c.self.inside.pc ≡ c.args.self.now.pc = ap (λ (held : Held). held.pc) c.self.view_is in
    let way = meant_at c.args.self.now c.self.inside.pc c.in-Some.instr here c.in-Some.ensures.instr in
    word_shows c.args.self.now c.fetch.new.self c.act.new.self _ _ c.self.inside.pc way.0 c.in-Some.instr c.act.result c.step_with.result outside
    way.1 c.fetch.ensures.same here way.2 c.act.ensures.acts c.step_with.ensures

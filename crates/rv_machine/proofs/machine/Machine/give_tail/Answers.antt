use Rattle.std.proofs.Common.{◌≡◌, ℕ, List, Some, OnOk, OnErr, ap, rules, subst}
use Rattle.ae_ports.specs.Content.{Appends, AppendsFront}
use Rattle.rv_memory.specs.Stretches.{memory_of}
use Rattle.rv_machine.specs.Held.{ending_by}
use Rattle.rv_machine.proofs.Recorded.{rest_of}
use Rattle.rv_machine.proofs.machine.Machine.give_tail.Goals as goal

pub returns-in-Some-clause-all : goal.returns-in-Some-clause-all
returns-in-Some-clause-all g c =
    let held = c.args.self.now in
    let note = c.in-Some.note in
    let is : held.note ≡ Some note = search rules in
    let pc : c.self.inside.pc ≡ held.pc = search rules in
    let mapped : c.memory.result.now ≡ held.memory = search rules in
    let ends : c.ending.result ≡ ending_by held.kept = search rules in
    subst (λ (bytes : List ℕ). OnOk c.put_rest.result (Appends (g.Q.Sink.told c.args.events.now) (g.Q.Sink.told c.put_rest.new.events) bytes))
    (rest_of held.note note c.self.inside.pc held.pc (memory_of c.memory.result.now) (memory_of held.memory) c.ending.result (ending_by held.kept) is pc (ap memory_of mapped) ends)
    c.put_rest.ensures.all

pub returns-in-Some-clause-front : goal.returns-in-Some-clause-front
returns-in-Some-clause-front g c =
    let held = c.args.self.now in
    let note = c.in-Some.note in
    let is : held.note ≡ Some note = search rules in
    let pc : c.self.inside.pc ≡ held.pc = search rules in
    let mapped : c.memory.result.now ≡ held.memory = search rules in
    let ends : c.ending.result ≡ ending_by held.kept = search rules in
    subst (λ (bytes : List ℕ). OnErr c.put_rest.result (AppendsFront (g.Q.Sink.told c.args.events.now) (g.Q.Sink.told c.put_rest.new.events) bytes))
    (rest_of held.note note c.self.inside.pc held.pc (memory_of c.memory.result.now) (memory_of held.memory) c.ending.result (ending_by held.kept) is pc (ap memory_of mapped) ends)
    c.put_rest.ensures.front

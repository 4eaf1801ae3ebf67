use Rattle.std.proofs.Common.{◌≡◌, ℕ, Bool, true, false, List, sym, ap, subst, ◌∙◌}
use Rattle.std.specs.Prelude.{is_none}
use Rattle.rv_code.specs.declared.extent.Extent.{Extent}
use Rattle.rv_memory.specs.Memory.{span, first_shut}
use Rattle.rv_memory.specs.Stretches.{Mapping, memory_of}
use Rattle.rv_machine.specs.Inner.Advance.{Breaks, made_of, read_in}
use Rattle.rv_machine.specs.Ports.{Told}
use Rattle.rv_machine.specs.contracts.machine.Machine.{the_view}
use Rattle.rv_machine.proofs.Called.{answered, took, took_none, read_elsewhere, read_here, free_is, with_taken}
use Rattle.rv_machine.proofs.machine.Machine.call_read.Goals as goal

tested : (seen mapping : Mapping) (address count : ℕ) (test : Bool) → seen ≡ mapping → test ≡ is_none (first_shut (memory_of seen) (span address count))
    → test ≡ is_none (first_shut (memory_of mapping) (span address count))
tested seen mapping address count test same is = is ∙ ap (λ (m : Mapping). is_none (first_shut (memory_of m) (span address count))) same

pub returns-then-register-ne0-clause-acts : goal.returns-then-register-ne0-clause-acts
returns-then-register-ne0-clause-acts g c = λ out err events.
    answered c.args.self.now c.set_and_go_on.new.self _ _ _ (read_elsewhere c.args.self.now c.register.result c.register.ensures c.if-register-ne0.true) c.set_and_go_on.ensures

pub returns-then-not-is_writable-clause-acts : goal.returns-then-not-is_writable-clause-acts
returns-then-not-is_writable-clause-acts g c = λ out err events.
    answered c.args.self.now c.set_and_go_on-then-not-is_writable.new.self _ _ _
    (read_here c.args.self.now c.register.result c.register.ensures false c.if-register-ne0.false
    (free_is (the_view c.self.inside) c.args.self.now c.register-address.result c.register-count.result c.is_writable.result false c.self.view_is
    c.register-address.ensures c.register-count.ensures (tested c.memory.result.now c.self.inside.loaded.memory c.register-address.result c.register-count.result c.is_writable.result c.memory.ensures c.is_writable.ensures) c.if-not-is_writable.true))
    c.set_and_go_on-then-not-is_writable.ensures

pub returns-in-Ok-clause-acts : goal.returns-in-Ok-clause-acts
returns-in-Ok-clause-acts g c = λ out err events.
    let told : Told = record { input = g.I.Source.told c.args.input.now; out = out; err = err; events = events } in
    took (the_view c.self.inside) c.args.self.now c.set_and_go_on-in-Ok.new.self told _ c.receive.new.loaded.memory c.register-address.result c.register-count.result c.in-Ok.got
    c.self.view_is (read_here c.args.self.now c.register.result c.register.ensures true c.if-register-ne0.false
    (free_is (the_view c.self.inside) c.args.self.now c.register-address.result c.register-count.result c.is_writable.result true c.self.view_is
    c.register-address.ensures c.register-count.ensures (tested c.memory.result.now c.self.inside.loaded.memory c.register-address.result c.register-count.result c.is_writable.result c.memory.ensures c.is_writable.ensures) c.if-not-is_writable.false))
    c.register-address.ensures c.register-count.ensures c.in-Ok.ensures.received c.receive.ensures.outline
    (c.set_and_go_on-in-Ok.ensures ∙ ap (λ (code : List Extent). with_taken (record (the_view c.self.inside) { code = code }) c.receive.new.loaded.memory c.in-Ok.got) c.receive.ensures.code)

pub returns-in-Err-clause-acts : goal.returns-in-Err-clause-acts
returns-in-Err-clause-acts g c = λ out err events.
    let told : Told = record { input = g.I.Source.told c.args.input.now; out = out; err = err; events = events } in
    let failed = c.in-Err.ensures.taken in
    subst (λ (code : List Extent). Breaks (made_of (read_in c.args.self.now) c.args.self.now) c.args.self.now told (record (the_view c.self.inside) { code = code; memory = c.receive.new.loaded.memory }) (record told { input = g.I.Source.told c.receive.new.input })) (sym c.receive.ensures.code)
    (took_none (the_view c.self.inside) c.args.self.now told _ c.receive.new.loaded.memory failed.0
    c.self.view_is (read_here c.args.self.now c.register.result c.register.ensures true c.if-register-ne0.false
    (free_is (the_view c.self.inside) c.args.self.now c.register-address.result c.register-count.result c.is_writable.result true c.self.view_is
    c.register-address.ensures c.register-count.ensures (tested c.memory.result.now c.self.inside.loaded.memory c.register-address.result c.register-count.result c.is_writable.result c.memory.ensures c.is_writable.ensures) c.if-not-is_writable.false)) failed.1 c.receive.ensures.outline)

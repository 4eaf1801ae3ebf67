use Rattle.std.proofs.Common.{inl, refl}
use Rattle.ae_top.specs.declared.event_files.NoEvents.{NoEvents}
use Rattle.ae_top.specs.PrintEvents.{KeepsPrintEvents}
use Rattle.ae_top.specs.World.{World, port, world}
use Rattle.ae_top.proofs.Blamed.{of_err}
use Rattle.ae_top.proofs.EventsBehind.{carries_no_events}
use Rattle.ae_top.proofs.KeptEvents.{carries_printed}
use Rattle.ae_top.proofs.print_events.print_events.Goals as goal

pub returns-in-Ok-clause-keeps : goal.returns-in-Ok-clause-keeps
returns-in-Ok-clause-keeps g c = λ input err.
    let before : World = world (port (g.S.Store.told c.args.store.now) (g.S.Store.faults c.args.store.now)) input (port (g.O.Sink.told c.args.out.now) (g.O.Sink.faults c.args.out.now)) err in
    let now : World = world (port (g.S.Store.told c.read_event_files.new.store) (g.S.Store.faults c.read_event_files.new.store)) input (port (g.O.Sink.told c.print_read.new.out) (g.O.Sink.faults c.print_read.new.out)) err in
    let files = c.in-Ok.files in
    rw (← c.name_at.ensures, ← c.name_at-2.ensures) (carries_printed c.args.schema c.name_at.result.now c.args.events c.name_at-2.result.now files.schema files.events.items c.print_read.result before now
    c.in-Ok.ensures.read c.print_read.ensures.gets refl refl c.in-Ok.ensures.files (c.in-Ok.ensures.blames.same (λ is. absurd (cc is))) c.print_read.ensures.blames)

pub returns-in-Err-clause-keeps : goal.returns-in-Err-clause-keeps
returns-in-Err-clause-keeps g c = λ input err.
    let before : World = world (port (g.S.Store.told c.args.store.now) (g.S.Store.faults c.args.store.now)) input (port (g.O.Sink.told c.args.out.now) (g.O.Sink.faults c.args.out.now)) err in
    let now : World = world (port (g.S.Store.told c.read_event_files.new.store) (g.S.Store.faults c.read_event_files.new.store)) input (port (g.O.Sink.told c.args.out.now) (g.O.Sink.faults c.args.out.now)) err in
    let schema = c.name_at.result.now in
    let events = c.name_at-2.result.now in
    let status = c.status_without_events.result in
    rw (← c.name_at.ensures, ← c.name_at-2.ensures) (carries_no_events c.args.schema schema c.args.events events c.in-Err.why status before now c.status_without_events.ensures c.in-Err.ensures.lacks refl c.in-Err.ensures.files
    (of_err c.in-Err.why NoEvents.StoreFault before.store.faults now.store.faults c.in-Err.ensures.blames)
    (KeepsPrintEvents c.args.schema schema c.args.events events status before now) inl)

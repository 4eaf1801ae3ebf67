use Rattle.std.proofs.Common.{[], inl, refl, slice_index_or}
use Rattle.ae_top.specs.declared.event_files.NoEvents.{NoEvents}
use Rattle.ae_top.specs.Regenerate.{KeepsRegenerate}
use Rattle.ae_top.specs.World.{World, port, world}
use Rattle.ae_top.proofs.Blamed.{of_err}
use Rattle.ae_top.proofs.EventsBehind.{carries_no_events}
use Rattle.ae_top.proofs.KeptRegenerated.{carries_read}
use Rattle.ae_top.proofs.regenerate.regenerate.Goals as goal

pub returns-in-Ok-clause-keeps : goal.returns-in-Ok-clause-keeps
returns-in-Ok-clause-keeps g c = λ input out err.
    let before : World = world (port (g.S.Store.told c.args.store.now) (g.S.Store.faults c.args.store.now)) input out err in
    let mid : World = world (port (g.S.Store.told c.read_event_files.new.store) (g.S.Store.faults c.read_event_files.new.store)) input out err in
    let now : World = world (port (g.S.Store.told c.regenerate_read.new.store) (g.S.Store.faults c.regenerate_read.new.store)) input out err in
    let files = c.in-Ok.files in
    rw (← c.name_at.ensures, ← c.name_at-2.ensures, ← c.name_at-in-Ok.ensures)
    (carries_read before mid now c.in-Ok.ensures.files refl c.args.schema c.name_at.result.now c.args.events c.name_at-2.result.now c.name_at-in-Ok.result.now
    files.schema files.events.items c.regenerate_read.result
    (c.in-Ok.ensures.blames.same (λ is. absurd (cc is))) c.in-Ok.ensures.read (c.regenerate_read.ensures.comes input out err))

pub returns-in-Err-clause-keeps : goal.returns-in-Err-clause-keeps
returns-in-Err-clause-keeps g c = λ input out err.
    let before : World = world (port (g.S.Store.told c.args.store.now) (g.S.Store.faults c.args.store.now)) input out err in
    let now : World = world (port (g.S.Store.told c.read_event_files.new.store) (g.S.Store.faults c.read_event_files.new.store)) input out err in
    let schema = c.name_at.result.now in
    let events = c.name_at-2.result.now in
    let trace = slice_index_or c.args.words.now c.args.trace [] in
    let status = c.status_without_events.result in
    rw (← c.name_at.ensures, ← c.name_at-2.ensures) (carries_no_events c.args.schema schema c.args.events events c.in-Err.why status before now c.status_without_events.ensures c.in-Err.ensures.lacks refl c.in-Err.ensures.files
    (of_err c.in-Err.why NoEvents.StoreFault before.store.faults now.store.faults c.in-Err.ensures.blames)
    (KeepsRegenerate c.args.schema schema c.args.events events trace status before now) inl)

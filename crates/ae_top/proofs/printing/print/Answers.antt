use Rattle.std.proofs.Common.{◌≡◌, Err, inl, refl, rules, subst}
use Rattle.ae_top.specs.declared.no_file.NoFile.{NoFile}
use Rattle.ae_top.specs.declared.printing.NotPrinted.{NotPrinted}
use Rattle.ae_top.specs.Inner.Printing.{Prints}
use Rattle.ae_top.specs.Printing.{KeepsPrint, asks_of}
use Rattle.ae_top.specs.World.{World, port, world}
use Rattle.ae_top.proofs.Blamed.{of_err, unblamed}
use Rattle.ae_top.proofs.Kept.{carries_no_file}
use Rattle.ae_top.proofs.Printed.{lacks_first, lacks_taken, same_streams}
use Rattle.ae_top.proofs.printing.print.Goals as goal

pub returns-in-Err-clause-keeps : goal.returns-in-Err-clause-keeps
returns-in-Err-clause-keeps g c = λ input err.
    let before : World = world (port (g.S.Store.told c.args.store.now) (g.S.Store.faults c.args.store.now)) input (port (g.O.Sink.told c.args.out.now) (g.O.Sink.faults c.args.out.now)) err in
    let now : World = world (port (g.S.Store.told c.read_program.new.store) (g.S.Store.faults c.read_program.new.store)) input (port (g.O.Sink.told c.args.out.now) (g.O.Sink.faults c.args.out.now)) err in
    let name = c.name_at.result.now in
    let status = c.status_without.result in
    rw (← c.name_at.ensures) (carries_no_file (asks_of c.args.kind) c.args.file name c.in-Err.why status before now c.status_without.ensures
    (lacks_first c.args.kind before.store.told name c.in-Err.why c.in-Err.ensures.lacks) refl c.in-Err.ensures.files
    (of_err c.in-Err.why NoFile.StoreFault before.store.faults now.store.faults c.in-Err.ensures.blames)
    (KeepsPrint c.args.kind c.args.file name status before now) inl)

pub returns-clause-keeps : goal.returns-clause-keeps
returns-clause-keeps g c = λ input err.
    let before : World = world (port (g.S.Store.told c.args.store.now) (g.S.Store.faults c.args.store.now)) input (port (g.O.Sink.told c.args.out.now) (g.O.Sink.faults c.args.out.now)) err in
    let now : World = world (port (g.S.Store.told c.read_program.new.store) (g.S.Store.faults c.read_program.new.store)) input (port (g.O.Sink.told c.print_bytes.new.out) (g.O.Sink.faults c.print_bytes.new.out)) err in
    let name = c.name_at.result.now in
    let kind = c.args.kind in
    let bytes = c.deref.result.now in
    let why = c.in-Err-NotTaken.why in
    let status = c.status_without-in-Err-NotTaken.result in
    let prints = subst (λ (e : NotPrinted). Prints kind bytes (Err e) before.streams.out.told now.streams.out.told) c.in-Err-NotTaken.field-0-is c.in-Err-NotTaken.ensures.prints in
    let counted = c.in-Err-NotTaken.ensures.blames.same (λ is. absurd (cc (is, c.in-Err-NotTaken.field-0-is))) in
    let read : c.in-Ok.bytes.items ≡ bytes = search rules in
    rw (← c.name_at.ensures) (carries_no_file (asks_of kind) c.args.file name (NoFile.NotTaken why) status before now c.status_without-in-Err-NotTaken.ensures
    (lacks_taken kind before.store.told name c.in-Ok.bytes.items bytes why c.in-Ok.ensures.bytes read prints.0)
    (same_streams input err before.streams.out.told now.streams.out.told before.streams.out.faults now.streams.out.faults prints.1 counted)
    c.in-Ok.ensures.files
    (unblamed (NoFile.NotTaken why ≡ NoFile.StoreFault) before.store.faults now.store.faults (λ is. absurd (cc is)) (c.in-Ok.ensures.blames.same (λ is. absurd (cc is))))
    (KeepsPrint kind c.args.file name status before now) inl)

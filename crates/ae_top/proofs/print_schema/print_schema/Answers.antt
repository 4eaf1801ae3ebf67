use Rattle.std.proofs.Common.{inl, refl}
use Rattle.ae_top.specs.declared.schema_file.NoSchema.{NoSchema}
use Rattle.ae_top.specs.PrintSchema.{KeepsPrintSchema}
use Rattle.ae_top.specs.World.{World, port, world}
use Rattle.ae_top.proofs.Blamed.{of_err}
use Rattle.ae_top.proofs.KeptSchema.{carries_no_schema}
use Rattle.ae_top.proofs.print_schema.print_schema.Goals as goal

pub returns-in-Err-clause-keeps : goal.returns-in-Err-clause-keeps
returns-in-Err-clause-keeps g c = λ input err.
    let before : World = world (port (g.S.Store.told c.args.store.now) (g.S.Store.faults c.args.store.now)) input (port (g.O.Sink.told c.args.out.now) (g.O.Sink.faults c.args.out.now)) err in
    let now : World = world (port (g.S.Store.told c.load_schema.new.store) (g.S.Store.faults c.load_schema.new.store)) input (port (g.O.Sink.told c.args.out.now) (g.O.Sink.faults c.args.out.now)) err in
    let name = c.name_at.result.now in
    let status = c.status_without_schema.result in
    rw (← c.name_at.ensures) (carries_no_schema c.args.file name c.in-Err.why status before now c.status_without_schema.ensures c.in-Err.ensures.lacks refl c.in-Err.ensures.files
    (of_err c.in-Err.why NoSchema.StoreFault before.store.faults now.store.faults c.in-Err.ensures.blames)
    (KeepsPrintSchema c.args.file name status before now) inl)

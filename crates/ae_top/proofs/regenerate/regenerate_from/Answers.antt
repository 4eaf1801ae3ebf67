use Rattle.std.proofs.Common.{◌≡◌, ◌⊎◌, inl, inr, refl, rules}
use Rattle.ae_ports.specs.Fault.{HasRisen}
use Rattle.ae_ports.specs.Files.{SameFile, IsEmptyFile}
use Rattle.ae_top.specs.declared.status.Status.{Status}
use Rattle.ae_top.specs.Regenerate.{RegeneratesFrom}
use Rattle.ae_top.specs.World.{World, port, world}
use Rattle.ae_top.proofs.Blamed.{blamed, blames_behind, carries_of_store}
use Rattle.ae_top.proofs.FilesBehind.{same_others_both}
use Rattle.ae_top.proofs.KeptRegenerated.{of_writing}
use Rattle.ae_top.proofs.regenerate.regenerate_from.Goals as goal

-- TRACE couldn't be made
pub returns-then-is_err-clause-comes : goal.returns-then-is_err-clause-comes
returns-then-is_err-clause-comes g c = λ input out err.
    let before : World = world (port (g.S.Store.told c.args.store.now) (g.S.Store.faults c.args.store.now)) input out err in
    let now : World = world (port (g.S.Store.told c.make.new.self) (g.S.Store.faults c.make.new.self)) input out err in
    let parts = c.args.schema.now in
    let bytes = c.args.events.items in
    let trace = c.args.trace.now in
    let risen : HasRisen before.store.faults now.store.faults = search rules in
    let made : SameFile before.store.told now.store.told trace ⊎ IsEmptyFile now.store.told trace = search rules in
    carries_of_store (RegeneratesFrom parts bytes trace Status.StoreFault before now) Status.StoreFault before now tt refl
    (blamed (Status.StoreFault ≡ Status.StoreFault) before.store.faults now.store.faults refl c.make.ensures.cause.later risen)
    (inr (inr (inl (record { own = c.requires.own; says = refl; streams = refl; file = made; others = c.make.ensures.others }))))

-- TRACE was made
pub returns-clause-comes : goal.returns-clause-comes
returns-clause-comes g c = λ input out err.
    let before : World = world (port (g.S.Store.told c.args.store.now) (g.S.Store.faults c.args.store.now)) input out err in
    let now : World = world (port (g.S.Store.told c.write_trace.new.store) (g.S.Store.faults c.write_trace.new.store)) input out err in
    let parts = c.args.schema.now in
    let bytes = c.args.events.items in
    let trace = c.args.trace.now in
    let status = c.write_trace.result in
    let writes = c.write_trace.ensures.writes in
    let served : g.S.Store.faults c.make.new.self ≡ before.store.faults = search rules in
    carries_of_store (RegeneratesFrom parts bytes trace status before now) status before now (of_writing parts bytes trace status now.store.told writes) refl
    (blames_behind (status ≡ Status.StoreFault) before.store.faults (g.S.Store.faults c.make.new.self) now.store.faults served c.write_trace.ensures.blames)
    (inr (inr (inr (record {
      own = c.requires.own;
      writes = writes;
      streams = refl;
      others = same_others_both before.store.told (g.S.Store.told c.make.new.self) now.store.told trace c.make.ensures.others c.write_trace.ensures.others;
    }))))

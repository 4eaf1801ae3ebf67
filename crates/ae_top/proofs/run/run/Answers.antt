use Rattle.std.proofs.Common.{inr}
use Rattle.std.specs.Prelude.{IsErrOf}
use Rattle.rv_machine.specs.declared.outcome.MachineFault.{MachineFault}
use Rattle.ae_top.specs.Refusing.{refusal_of}
use Rattle.ae_top.specs.Run.{KeepsRun}
use Rattle.ae_top.specs.World.{World, port, world}
use Rattle.ae_top.proofs.Blamed.{unblamed}
use Rattle.ae_top.proofs.Kept.{ran_file, carries_run}
use Rattle.ae_top.proofs.run.run.Goals as goal

pub returns-in-Ok-clause-keeps : goal.returns-in-Ok-clause-keeps
returns-in-Ok-clause-keeps g c =
    let before : World = world (port (g.S.Store.told c.args.store.now) (g.S.Store.faults c.args.store.now)) (port (g.I.Source.told c.args.input.now) (g.I.Source.faults c.args.input.now))
    (port (g.O.Sink.told c.args.out.now) (g.O.Sink.faults c.args.out.now)) (port (g.P.Sink.told c.args.err.now) (g.P.Sink.faults c.args.err.now)) in
    let now : World = world (port (g.S.Store.told c.load_program.new.store) (g.S.Store.faults c.load_program.new.store)) (port (g.I.Source.told c.run_machine.new.input) (g.I.Source.faults c.run_machine.new.input))
    (port (g.O.Sink.told c.run_machine.new.out) (g.O.Sink.faults c.run_machine.new.out)) (port (g.P.Sink.told c.run_machine.new.err) (g.P.Sink.faults c.run_machine.new.err)) in
    let name = c.name_at.result.now in
    let machine = c.in-Ok.machine in
    let answer = c.run_machine.result in
    let status = c.status_of.result in
    let loaded = c.in-Ok.ensures.loaded in
    let ran = c.run_machine.ensures.ran in
    let store = unblamed (IsErrOf answer MachineFault.EventFault) before.store.faults now.store.faults c.run_machine.ensures.served (c.in-Ok.ensures.blames.same (λ is. absurd (cc is))) in
    rw (← c.name_at.ensures) (carries_run refusal_of name machine c.args.fuel answer before now loaded ran (KeepsRun c.args.prog name c.args.fuel status before now) status c.status_of.ensures store
    (inr (record {
      answer = answer;
      says = c.status_of.ensures;
      ran = ran_file refusal_of name machine c.args.fuel answer before now loaded ran;
      served = c.run_machine.ensures.served;
      files = c.in-Ok.ensures.files;
    })))

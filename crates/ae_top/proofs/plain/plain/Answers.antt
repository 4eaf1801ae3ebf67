use Rattle.std.proofs.Common.{◌≡◌, ◌⊎◌, inl, inr, refl, ◌∙◌, rules}
use Rattle.std.specs.Prelude.{IsErrOf}
use Rattle.ae_ports.specs.Fault.{HasRisen}
use Rattle.ae_ports.specs.Files.{SameFile, IsEmptyFile}
use Rattle.rv_machine.specs.declared.outcome.MachineFault.{MachineFault}
use Rattle.ae_top.specs.declared.status.Status.{Status}
use Rattle.ae_top.specs.Plain.{KeepsPlain}
use Rattle.ae_top.specs.Refusing.{traced_refusal}
use Rattle.ae_top.specs.World.{World, port, world}
use Rattle.ae_top.proofs.Blamed.{blamed, blames_behind}
use Rattle.ae_top.proofs.FilesBehind.{same_file_after, same_others_after, same_others_both}
use Rattle.ae_top.proofs.Kept.{ran_file, carries_run, carries_unmade, lines_of}
use Rattle.ae_top.proofs.plain.plain.Goals as goal

-- TRACE couldn't be made
pub returns-then-is_err-clause-keeps : goal.returns-then-is_err-clause-keeps
returns-then-is_err-clause-keeps g c =
    let before : World = world (port (g.S.Store.told c.args.store.now) (g.S.Store.faults c.args.store.now)) (port (g.I.Source.told c.args.input.now) (g.I.Source.faults c.args.input.now))
    (port (g.O.Sink.told c.args.out.now) (g.O.Sink.faults c.args.out.now)) (port (g.P.Sink.told c.args.err.now) (g.P.Sink.faults c.args.err.now)) in
    let now : World = world (port (g.S.Store.told c.make.new.self) (g.S.Store.faults c.make.new.self)) (port (g.I.Source.told c.args.input.now) (g.I.Source.faults c.args.input.now))
    (port (g.O.Sink.told c.args.out.now) (g.O.Sink.faults c.args.out.now)) (port (g.P.Sink.told c.args.err.now) (g.P.Sink.faults c.args.err.now)) in
    let mid = g.S.Store.told c.load_program.new.store in
    let name = c.name_at.result.now in
    let trace = c.name_at-trace.result.now in
    let loaded = c.in-Ok.ensures.loaded in
    let same = c.in-Ok.ensures.blames.same (λ is. absurd (cc is)) in
    let later = c.make.ensures.cause.later in
    let risen : HasRisen (g.S.Store.faults c.load_program.new.store) now.store.faults = search rules in
    let made : SameFile mid now.store.told trace ⊎ IsEmptyFile now.store.told trace = search rules in
    rw (← c.name_at.ensures, ← c.name_at-trace.ensures) (carries_unmade (KeepsPlain c.args.prog name trace c.args.fuel Status.StoreFault before now) before now refl
    (blames_behind (Status.StoreFault ≡ Status.StoreFault) before.store.faults (g.S.Store.faults c.load_program.new.store) now.store.faults same
    (blamed _ (g.S.Store.faults c.load_program.new.store) now.store.faults refl later risen))
    (inr (inl (record {
      says = refl;
      bytes = loaded.bytes;
      has = loaded.has;
      image = loaded.image;
      taken = loaded.taken;
      streams = refl;
      file = elim made [
        | inl as_before ↦ inl (same_file_after before.store.told mid now.store.told trace c.in-Ok.ensures.files as_before)
        | inr empty ↦ inr empty
      ];
      others = same_others_after before.store.told mid now.store.told trace c.in-Ok.ensures.files c.make.ensures.others;
    }))))

pub returns-then-is_err-clause-store : goal.returns-then-is_err-clause-store
returns-then-is_err-clause-store g c =
    g.met.S.Store.rest_joins c.args.store.now c.load_program.new.store c.make.new.self c.in-Ok.ensures.rest c.make.ensures.rest

pub returns-then-is_err-clause-input : goal.returns-then-is_err-clause-input
returns-then-is_err-clause-input g c = g.met.I.Source.rest_stays c.args.input.now

pub returns-then-is_err-clause-out : goal.returns-then-is_err-clause-out
returns-then-is_err-clause-out g c = g.met.O.Sink.rest_stays c.args.out.now

pub returns-then-is_err-clause-err : goal.returns-then-is_err-clause-err
returns-then-is_err-clause-err g c = g.met.P.Sink.rest_stays c.args.err.now

-- the program was run
pub returns-clause-keeps : goal.returns-clause-keeps
returns-clause-keeps g c =
    let before : World = world (port (g.S.Store.told c.args.store.now) (g.S.Store.faults c.args.store.now)) (port (g.I.Source.told c.args.input.now) (g.I.Source.faults c.args.input.now))
    (port (g.O.Sink.told c.args.out.now) (g.O.Sink.faults c.args.out.now)) (port (g.P.Sink.told c.args.err.now) (g.P.Sink.faults c.args.err.now)) in
    let now : World = world (port (g.S.Store.told c.trace_machine-answer.new.store) (g.S.Store.faults c.trace_machine-answer.new.store)) (port (g.I.Source.told c.trace_machine-answer.new.input) (g.I.Source.faults c.trace_machine-answer.new.input))
    (port (g.O.Sink.told c.trace_machine-answer.new.out) (g.O.Sink.faults c.trace_machine-answer.new.out)) (port (g.P.Sink.told c.trace_machine-answer.new.err) (g.P.Sink.faults c.trace_machine-answer.new.err)) in
    let mid = g.S.Store.told c.load_program.new.store in
    let made = g.S.Store.told c.make.new.self in
    let name = c.name_at.result.now in
    let trace = c.name_at-trace.result.now in
    let machine = c.in-Ok.machine in
    let answer = c.trace_machine-answer.result in
    let status = c.status_of.result in
    let loaded = c.in-Ok.ensures.loaded in
    let ran = c.trace_machine-answer.ensures.ran in
    let served : g.S.Store.faults c.make.new.self ≡ g.S.Store.faults c.load_program.new.store = search rules in
    let same = served ∙ c.in-Ok.ensures.blames.same (λ is. absurd (cc is)) in
    rw (← c.name_at.ensures, ← c.name_at-trace.ensures) (carries_run traced_refusal name machine c.args.fuel answer before now loaded ran (KeepsPlain c.args.prog name trace c.args.fuel status before now) status c.status_of.ensures
    (blames_behind (IsErrOf answer MachineFault.EventFault) before.store.faults (g.S.Store.faults c.make.new.self) now.store.faults same c.trace_machine-answer.ensures.blames)
    (inr (inr (record {
      answer = answer;
      says = c.status_of.ensures;
      ran = ran_file traced_refusal name machine c.args.fuel answer before now loaded ran;
      lines = lines_of traced_refusal name trace machine c.args.fuel answer before.store.told now.store.told before.streams.input.told loaded c.trace_machine-answer.ensures.lines;
      others = same_others_after before.store.told mid now.store.told trace c.in-Ok.ensures.files
          (same_others_both mid made now.store.told trace c.make.ensures.others c.trace_machine-answer.ensures.others);
    }))))

pub returns-clause-store : goal.returns-clause-store
returns-clause-store g c =
    g.met.S.Store.rest_joins c.args.store.now c.load_program.new.store c.trace_machine-answer.new.store c.in-Ok.ensures.rest
    (g.met.S.Store.rest_joins c.load_program.new.store c.make.new.self c.trace_machine-answer.new.store c.make.ensures.rest c.trace_machine-answer.ensures.store)

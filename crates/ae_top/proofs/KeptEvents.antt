-- What comes of the command that prints an event file.
use Rattle.std.proofs.Common.{◌≡◌, ℕ, List, Option, inl, inr, sym, ap, ◌∙◌, subst}
use Rattle.std.specs.Prelude.{⊤}
use Rattle.ae_ports.specs.Files.{SameFiles}
use Rattle.ev_format.specs.declared.stop.Stop.{Stop}
use Rattle.schema_form.specs.SchemaParts.{SchemaParts}
use Rattle.ae_top.specs.declared.status.Status.{Status}
use Rattle.ae_top.specs.EventFiles.{AreEventFiles, status_by}
use Rattle.ae_top.specs.Inner.Command.{Carries}
use Rattle.ae_top.specs.PrintEvents.{GetsEvents, KeepsPrintEvents}
use Rattle.ae_top.specs.World.{World, Blames}
use Rattle.ae_top.proofs.Blamed.{unblamed}

-- the statuses that printing comes to
abbrev OfPrinting : Status → Type 0
OfPrinting Status.Done = ⊤
OfPrinting Status.CutShort = ⊤
OfPrinting (Status.BadEvents refusal) = ⊤
OfPrinting Status.OutFault = ⊤
OfPrinting _ = ⊥

of_stop : (stop : Stop) → OfPrinting (status_by stop)
of_stop Stop.Finished = tt
of_stop Stop.Cut = tt
of_stop Stop.OtherProgram = tt
of_stop (Stop.BadRecord offset) = tt

of_printing : (schema : SchemaParts) (bytes : List ℕ) (status : Status) (before now : Option (List ℕ)) → GetsEvents schema bytes status before now → OfPrinting status
of_printing schema bytes status before now (inl stopped) = subst OfPrinting (sym stopped.1) (of_stop stopped.0)
of_printing schema bytes status before now (inr failed) = subst OfPrinting (sym failed.0) tt

-- a stop is no fault of the output
abbrev IsOutFault : Status → Type 0
IsOutFault Status.OutFault = ⊤
IsOutFault _ = ⊥

no_out_fault : (stop : Stop) → IsOutFault (status_by stop) → ⊥
no_out_fault Stop.Finished is = is
no_out_fault Stop.Cut is = is
no_out_fault Stop.OtherProgram is = is
no_out_fault (Stop.BadRecord offset) is = is

pub stop_unfailed : (stop : Stop) (status : Status) → status ≡ status_by stop → status ≡ Status.OutFault → ⊥
stop_unfailed stop status by is = no_out_fault stop (subst IsOutFault (sym is ∙ by) tt)

-- the event file was printed
pub carries_printed : (schema_place : ℕ) (schema : List ℕ) (events_place : ℕ) (events : List ℕ) (parts : SchemaParts) (bytes : List ℕ) (status : Status) (before now : World)
    → AreEventFiles before.store.told schema events parts bytes → GetsEvents parts bytes status before.streams.out.told now.streams.out.told
    → now.streams.input ≡ before.streams.input → now.streams.err ≡ before.streams.err → SameFiles before.store.told now.store.told
    → now.store.faults ≡ before.store.faults → Blames (status ≡ Status.OutFault) before.streams.out.faults now.streams.out.faults
    → Carries (KeepsPrintEvents schema_place schema events_place events status before now) status before now
carries_printed schema_place schema events_place events parts bytes status before now are gets input err files counted out =
    let of : OfPrinting status = of_printing parts bytes status before.streams.out.told now.streams.out.told gets in
    record {
      keeps = inr (record { parts = parts; bytes = bytes; read = are; gets = gets; input = input; err = err; files = files });
      blames = record {
        store = unblamed (status ≡ Status.StoreFault) before.store.faults now.store.faults (λ is. subst OfPrinting is of) counted;
        input = unblamed (status ≡ Status.InputFault) before.streams.input.faults now.streams.input.faults (λ is. subst OfPrinting is of) (ap (λ p. p.faults) input);
        out = out;
        err = unblamed (status ≡ Status.ErrFault) before.streams.err.faults now.streams.err.faults (λ is. subst OfPrinting is of) (ap (λ p. p.faults) err);
      };
      used = λ is. subst OfPrinting is of;
    }

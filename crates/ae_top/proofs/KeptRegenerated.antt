-- What comes of the command that regenerates a trace.
use Rattle.std.proofs.Common.{◌≡◌, ◌⊎◌, ℕ, List, Option, inl, inr, sym, ap, ◌∙◌, subst}
use Rattle.std.specs.Prelude.{⊤}
use Rattle.ae_ports.specs.Files.{Files, SameFile, SameFiles, IsEmptyFile}
use Rattle.ev_format.specs.declared.stop.Stop.{Stop}
use Rattle.regen_walk.specs.declared.replaying.Halted.{Halted}
use Rattle.regen_walk.specs.declared.replaying.Halted.TheVariants.{Read, Astray}
use Rattle.schema_form.specs.SchemaParts.{SchemaParts}
use Rattle.ae_top.specs.declared.status.Status.{Status}
use Rattle.ae_top.specs.EventFiles.{AreEventFiles}
use Rattle.ae_top.specs.Inner.Command.{Carries}
use Rattle.ae_top.specs.Regenerate.{KeepsRegenerate, RegeneratesFrom, WritesTrace, status_halted}
use Rattle.ae_top.specs.World.{World, KeepsAll, BlamesDevices}
use Rattle.ae_top.proofs.Blamed.{OfStore, blames_behind}
use Rattle.ae_top.proofs.FilesBehind.{same_file_after, same_others_after}
use Rattle.ae_top.proofs.ToldBehind.{same_files_both}

-- the statuses that regenerating comes to
of_halted : (halted : Halted) → OfStore (status_halted halted)
of_halted (Read Stop.Finished) = tt
of_halted (Read Stop.Cut) = tt
of_halted (Read Stop.OtherProgram) = tt
of_halted (Read (Stop.BadRecord offset)) = tt
of_halted (Astray offset) = tt

pub of_writing : (parts : SchemaParts) (bytes trace : List ℕ) (status : Status) (files : Option Files) → WritesTrace parts bytes trace status files → OfStore status
of_writing parts bytes trace status files (inl all) = subst OfStore (sym all.1) (of_halted all.0)
of_writing parts bytes trace status files (inr front) = subst OfStore (sym front.0) tt

-- none of them is a fault of the store but that
abbrev IsStoreFault : Status → Type 0
IsStoreFault Status.StoreFault = ⊤
IsStoreFault _ = ⊥

no_store_fault : (halted : Halted) → IsStoreFault (status_halted halted) → ⊥
no_store_fault (Read Stop.Finished) is = is
no_store_fault (Read Stop.Cut) is = is
no_store_fault (Read Stop.OtherProgram) is = is
no_store_fault (Read (Stop.BadRecord offset)) is = is
no_store_fault (Astray offset) is = is

pub halted_unfailed : (halted : Halted) (status : Status) → status ≡ status_halted halted → status ≡ Status.StoreFault → ⊥
halted_unfailed halted status by is = no_store_fault halted (subst IsStoreFault (sym is ∙ by) tt)

-- behind the reading of both files, which changed no file, no stream and no count
module _ (before mid now : World) (same : SameFiles before.store.told mid.store.told) (streams : mid.streams ≡ before.streams) where
  all_from : KeepsAll mid now → KeepsAll before now
  all_from all =
      record {
        streams = all.streams ∙ streams;
        files = same_files_both before.store.told mid.store.told now.store.told same all.files;
      }

  file_from : (trace : List ℕ) → SameFile mid.store.told now.store.told trace ⊎ IsEmptyFile now.store.told trace
      → SameFile before.store.told now.store.told trace ⊎ IsEmptyFile now.store.told trace
  file_from trace (inl as_before) = inl (same_file_after before.store.told mid.store.told now.store.told trace same as_before)
  file_from trace (inr empty) = inr empty

  comes_from : (parts : SchemaParts) (bytes trace : List ℕ) (status : Status) → RegeneratesFrom parts bytes trace status mid now → RegeneratesFrom parts bytes trace status before now
  comes_from parts bytes trace status (inl other) = inl (record { foreign = other.foreign; says = other.says; all = all_from other.all })
  comes_from parts bytes trace status (inr (inl none)) = inr (inl (record { own = none.own; says = none.says; all = all_from none.all }))
  comes_from parts bytes trace status (inr (inr (inl unmade))) =
      inr (inr (inl (record {
        own = unmade.own;
        says = unmade.says;
        streams = unmade.streams ∙ streams;
        file = file_from trace unmade.file;
        others = same_others_after before.store.told mid.store.told now.store.told trace same unmade.others;
      })))
  comes_from parts bytes trace status (inr (inr (inr made))) =
      inr (inr (inr (record {
        own = made.own;
        writes = made.writes;
        streams = made.streams ∙ streams;
        others = same_others_after before.store.told mid.store.told now.store.told trace same made.others;
      })))

  devices_from : (status : Status) → mid.store.faults ≡ before.store.faults → BlamesDevices status mid now → BlamesDevices status before now
  devices_from status counted blames =
      record {
        store = blames_behind (status ≡ Status.StoreFault) before.store.faults mid.store.faults now.store.faults counted blames.store;
        input = blames_behind (status ≡ Status.InputFault) before.streams.input.faults mid.streams.input.faults now.streams.input.faults (ap (λ s. s.input.faults) streams) blames.input;
        out = blames_behind (status ≡ Status.OutFault) before.streams.out.faults mid.streams.out.faults now.streams.out.faults (ap (λ s. s.out.faults) streams) blames.out;
        err = blames_behind (status ≡ Status.ErrFault) before.streams.err.faults mid.streams.err.faults now.streams.err.faults (ap (λ s. s.err.faults) streams) blames.err;
      }

  pub carries_read : (schema_place : ℕ) (schema : List ℕ) (events_place : ℕ) (events trace : List ℕ) (parts : SchemaParts) (bytes : List ℕ) (status : Status)
      → mid.store.faults ≡ before.store.faults → AreEventFiles before.store.told schema events parts bytes
      → Carries (RegeneratesFrom parts bytes trace status mid now) status mid now
      → Carries (KeepsRegenerate schema_place schema events_place events trace status before now) status before now
  carries_read schema_place schema events_place events trace parts bytes status counted are carries =
      record {
        keeps = inr (record { parts = parts; bytes = bytes; read = are; comes = comes_from parts bytes trace status carries.keeps });
        blames = devices_from status counted carries.blames;
        used = carries.used;
      }

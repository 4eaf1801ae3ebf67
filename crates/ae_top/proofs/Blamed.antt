-- Whose fault a fault is: counts that stay and counts that rise, and what a status says of them.
use Rattle.std.proofs.Common.{◌≡◌, ◌⊎◌, ℕ, ◌≤◌, Option, None, Some, Result, Ok, Err, refl, sym, ap, ◌∙◌, subst, inl, inr, arith}
use Rattle.std.specs.Prelude.{⊤, IsErrOf}
use Rattle.ae_ports.specs.Fault.{HasRisen}
use Rattle.rv_code.specs.declared.ending.Ending.TheVariants.{Exit, Illegal, Breakpoint, LoadFault, StoreFault, FetchFault, JumpMisaligned}
use Rattle.rv_machine.specs.declared.outcome.MachineFault.{MachineFault}
use Rattle.rv_machine.specs.declared.outcome.Outcome.{Outcome}
use Rattle.rv_machine.specs.declared.outcome.Outcome.TheVariants.{Ended, Spent}
use Rattle.ae_top.specs.declared.no_file.NoFile.{NoFile}
use Rattle.ae_top.specs.declared.no_file.NotTaken.{NotTaken}
use Rattle.ae_top.specs.declared.schema_file.NoSchema.{NoSchema}
use Rattle.ae_top.specs.declared.status.Status.{Status}
use Rattle.ae_top.specs.NoFile.{status_without}
use Rattle.ae_top.specs.SchemaFile.{status_without_schema}
use Rattle.ae_top.specs.Running.{status_of}
use Rattle.ae_top.specs.Inner.Command.{Carries}
use Rattle.ae_top.specs.Inner.Machine.{BlamesStreams}
use Rattle.ae_top.specs.World.{World, Blames, BlamesDevices}

-- a count that is as before, where the fault wasn't answered
pub unblamed : (failed : Type 0) (before now : ℕ) → (failed → ⊥) → now ≡ before → Blames failed before now
unblamed failed before now never same = record { later = omega (arith, same); same = λ _. same; risen = λ fails. absurd (never fails) }

-- a count that has risen, where it was
pub blamed : (failed : Type 0) (before now : ℕ) → failed → before ≤ now → HasRisen before now → Blames failed before now
blamed failed before now fails later risen = record { later = later; same = λ never. absurd (never fails); risen = λ _. risen }

-- the same fault in other words
pub blames_as : (failed other : Type 0) (before now : ℕ) → (failed → other) → (other → failed) → Blames failed before now → Blames other before now
blames_as failed other before now to from blames =
    record { later = blames.later; same = λ never. blames.same (λ fails. never (to fails)); risen = λ fails. blames.risen (from fails) }

-- a call behind one that left the count as before
pub blames_behind : (failed : Type 0) (before mid now : ℕ) → mid ≡ before → Blames failed mid now → Blames failed before now
blames_behind failed before mid now same blames = subst (λ (n : ℕ). Blames failed n now) same blames

-- the fault of a machine's answer, and the one that a status tells
abbrev fault_in : Result Outcome MachineFault → Option MachineFault
fault_in (Ok outcome) = None
fault_in (Err fault) = Some fault

abbrev fault_told : Status → Option MachineFault
fault_told Status.InputFault = Some MachineFault.InputFault
fault_told Status.OutFault = Some MachineFault.OutFault
fault_told Status.ErrFault = Some MachineFault.ErrFault
fault_told Status.StoreFault = Some MachineFault.EventFault
fault_told _ = None

told_of_run : (fuel : ℕ) (answer : Result Outcome MachineFault) → fault_told (status_of fuel answer) ≡ fault_in answer
told_of_run fuel (Ok (Ended (Exit code))) = refl
told_of_run fuel (Ok (Ended (Illegal word))) = refl
told_of_run fuel (Ok (Ended Breakpoint)) = refl
told_of_run fuel (Ok (Ended (LoadFault address))) = refl
told_of_run fuel (Ok (Ended (StoreFault address))) = refl
told_of_run fuel (Ok (Ended (FetchFault address))) = refl
told_of_run fuel (Ok (Ended (JumpMisaligned target))) = refl
told_of_run fuel (Ok Spent) = refl
told_of_run fuel (Err MachineFault.InputFault) = refl
told_of_run fuel (Err MachineFault.OutFault) = refl
told_of_run fuel (Err MachineFault.ErrFault) = refl
told_of_run fuel (Err MachineFault.EventFault) = refl

is_err : (answer : Result Outcome MachineFault) (fault : MachineFault) → fault_in answer ≡ Some fault → IsErrOf answer fault
is_err (Ok outcome) fault is = absurd (cc is)
is_err (Err other) fault is = cc

-- a fault of a run by the answer and by the status
by_status : (fuel : ℕ) (answer : Result Outcome MachineFault) (fault : MachineFault) (before now : ℕ) → Blames (IsErrOf answer fault) before now
    → Blames (status_of fuel answer ≡ status_of fuel (Err fault)) before now
by_status fuel answer fault before now blames =
    blames_as (IsErrOf answer fault) (status_of fuel answer ≡ status_of fuel (Err fault)) before now
    (λ is. ap (status_of fuel) is)
    (λ is. is_err answer fault (sym (told_of_run fuel answer) ∙ ap fault_told is ∙ told_of_run fuel (Err fault)))
    blames

pub run_blames : (fuel : ℕ) (answer : Result Outcome MachineFault) (before now : World) → Blames (IsErrOf answer MachineFault.EventFault) before.store.faults now.store.faults
    → BlamesStreams answer before.streams now.streams → BlamesDevices (status_of fuel answer) before now
run_blames fuel answer before now store streams =
    record {
      store = by_status fuel answer MachineFault.EventFault before.store.faults now.store.faults store;
      input = by_status fuel answer MachineFault.InputFault before.streams.input.faults now.streams.input.faults streams.input;
      out = by_status fuel answer MachineFault.OutFault before.streams.out.faults now.streams.out.faults streams.out;
      err = by_status fuel answer MachineFault.ErrFault before.streams.err.faults now.streams.err.faults streams.err;
    }

-- a status of which the store alone may be to blame
pub store_blames : (status : Status) (before now : World) → now.streams ≡ before.streams → (fault_told status ≡ None) ⊎ (fault_told status ≡ Some MachineFault.EventFault)
    → Blames (status ≡ Status.StoreFault) before.store.faults now.store.faults → BlamesDevices status before now
store_blames status before now same only store =
    record {
      store = store;
      input = unblamed _ _ _ (λ is. let told = ap fault_told is in elim only [ inl none ↦ absurd (cc (told, none)) | inr some ↦ absurd (cc (told, some)) ]) (ap (λ s. s.input.faults) same);
      out = unblamed _ _ _ (λ is. let told = ap fault_told is in elim only [ inl none ↦ absurd (cc (told, none)) | inr some ↦ absurd (cc (told, some)) ]) (ap (λ s. s.out.faults) same);
      err = unblamed _ _ _ (λ is. let told = ap fault_told is in elim only [ inl none ↦ absurd (cc (told, none)) | inr some ↦ absurd (cc (told, some)) ]) (ap (λ s. s.err.faults) same);
    }

told_without : (why : NoFile) (word : ℕ) → (fault_told (status_without why word) ≡ None) ⊎ (fault_told (status_without why word) ≡ Some MachineFault.EventFault)
told_without NoFile.Missing word = inl refl
told_without NoFile.StoreFault word = inr refl
told_without (NoFile.NotTaken (NotTaken.Refused refusal)) word = inl refl
told_without (NoFile.NotTaken NotTaken.NoMemory) word = inl refl

store_without : (why : NoFile) (word : ℕ) → status_without why word ≡ Status.StoreFault → why ≡ NoFile.StoreFault
store_without NoFile.Missing word is = absurd (cc is)
store_without NoFile.StoreFault word is = refl
store_without (NoFile.NotTaken (NotTaken.Refused refusal)) word is = absurd (cc is)
store_without (NoFile.NotTaken NotTaken.NoMemory) word is = absurd (cc is)

pub no_file_blames : (why : NoFile) (word : ℕ) (before now : World) → now.streams ≡ before.streams → Blames (why ≡ NoFile.StoreFault) before.store.faults now.store.faults
    → BlamesDevices (status_without why word) before now
no_file_blames why word before now same store =
    store_blames (status_without why word) before now same (told_without why word)
    (blames_as (why ≡ NoFile.StoreFault) (status_without why word ≡ Status.StoreFault) before.store.faults now.store.faults
    (λ is. ap (λ w. status_without w word) is) (store_without why word) store)

-- none of these statuses is that of wrong words
abbrev IsUsage : Status → Type 0
IsUsage Status.Usage = ⊤
IsUsage _ = ⊥

run_used : (fuel : ℕ) (answer : Result Outcome MachineFault) → IsUsage (status_of fuel answer) → ⊥
run_used fuel (Ok (Ended (Exit code))) is = is
run_used fuel (Ok (Ended (Illegal word))) is = is
run_used fuel (Ok (Ended Breakpoint)) is = is
run_used fuel (Ok (Ended (LoadFault address))) is = is
run_used fuel (Ok (Ended (StoreFault address))) is = is
run_used fuel (Ok (Ended (FetchFault address))) is = is
run_used fuel (Ok (Ended (JumpMisaligned target))) is = is
run_used fuel (Ok Spent) is = is
run_used fuel (Err MachineFault.InputFault) is = is
run_used fuel (Err MachineFault.OutFault) is = is
run_used fuel (Err MachineFault.ErrFault) is = is
run_used fuel (Err MachineFault.EventFault) is = is

pub run_unused : (fuel : ℕ) (answer : Result Outcome MachineFault) → status_of fuel answer ≡ Status.Usage → ⊥
run_unused fuel answer is = run_used fuel answer (subst IsUsage (sym is) tt)

without_used : (why : NoFile) (word : ℕ) → IsUsage (status_without why word) → ⊥
without_used NoFile.Missing word is = is
without_used NoFile.StoreFault word is = is
without_used (NoFile.NotTaken (NotTaken.Refused refusal)) word is = is
without_used (NoFile.NotTaken NotTaken.NoMemory) word is = is

pub without_unused : (why : NoFile) (word : ℕ) → status_without why word ≡ Status.Usage → ⊥
without_unused why word is = without_used why word (subst IsUsage (sym is) tt)

-- a fault that was answered as an error
pub of_err : {T : Type 0} {E : Type 0} (why other : E) (before now : ℕ) → Blames (IsErrOf {T = T} (Err why) other) before now → Blames (why ≡ other) before now
of_err {T} {E} why other before now blames =
    blames_as (IsErrOf {T = T} (Err why) other) (why ≡ other) before now (λ is. cc) (λ is. ap Err is) blames

told_without_schema : (why : NoSchema) (word : ℕ) → (fault_told (status_without_schema why word) ≡ None) ⊎ (fault_told (status_without_schema why word) ≡ Some MachineFault.EventFault)
told_without_schema NoSchema.Missing word = inl refl
told_without_schema NoSchema.StoreFault word = inr refl
told_without_schema NoSchema.NoMemory word = inl refl
told_without_schema (NoSchema.Bad fault) word = inl refl

store_without_schema : (why : NoSchema) (word : ℕ) → status_without_schema why word ≡ Status.StoreFault → why ≡ NoSchema.StoreFault
store_without_schema NoSchema.Missing word is = absurd (cc is)
store_without_schema NoSchema.StoreFault word is = refl
store_without_schema NoSchema.NoMemory word is = absurd (cc is)
store_without_schema (NoSchema.Bad fault) word is = absurd (cc is)

pub no_schema_blames : (why : NoSchema) (word : ℕ) (before now : World) → now.streams ≡ before.streams → Blames (why ≡ NoSchema.StoreFault) before.store.faults now.store.faults
    → BlamesDevices (status_without_schema why word) before now
no_schema_blames why word before now same store =
    store_blames (status_without_schema why word) before now same (told_without_schema why word)
    (blames_as (why ≡ NoSchema.StoreFault) (status_without_schema why word ≡ Status.StoreFault) before.store.faults now.store.faults
    (λ is. ap (λ w. status_without_schema w word) is) (store_without_schema why word) store)

without_schema_used : (why : NoSchema) (word : ℕ) → IsUsage (status_without_schema why word) → ⊥
without_schema_used NoSchema.Missing word is = is
without_schema_used NoSchema.StoreFault word is = is
without_schema_used NoSchema.NoMemory word is = is
without_schema_used (NoSchema.Bad fault) word is = is

pub schema_unused : (why : NoSchema) (word : ℕ) → status_without_schema why word ≡ Status.Usage → ⊥
schema_unused why word is = without_schema_used why word (subst IsUsage (sym is) tt)

-- statuses for which neither the words nor a stream are to blame
abbrev pub OfStore : Status → Type 0
OfStore Status.Usage = ⊥
OfStore Status.InputFault = ⊥
OfStore Status.OutFault = ⊥
OfStore Status.ErrFault = ⊥
OfStore _ = ⊤

pub carries_of_store : (promise : Type 0) (status : Status) (before now : World) → OfStore status → now.streams ≡ before.streams
    → Blames (status ≡ Status.StoreFault) before.store.faults now.store.faults → promise → Carries promise status before now
carries_of_store promise status before now of same store keeps =
    record {
      keeps = keeps;
      blames = record {
        store = store;
        input = unblamed (status ≡ Status.InputFault) before.streams.input.faults now.streams.input.faults (λ is. subst OfStore is of) (ap (λ s. s.input.faults) same);
        out = unblamed (status ≡ Status.OutFault) before.streams.out.faults now.streams.out.faults (λ is. subst OfStore is of) (ap (λ s. s.out.faults) same);
        err = unblamed (status ≡ Status.ErrFault) before.streams.err.faults now.streams.err.faults (λ is. subst OfStore is of) (ap (λ s. s.err.faults) same);
      };
      used = λ is. subst OfStore is of;
    }

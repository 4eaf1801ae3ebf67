-- From what the machine answers, and what the second output got behind that, to what is said of a run.
use Rattle.std.proofs.Common.{◌≡◌, ℕ, List, ◌++◌, take, Option, None, Result, Ok, Err, refl, sym, ap, ◌∙◌, subst, inl, inr}
use Rattle.std.specs.Prelude.{IsErrOf}
use Rattle.ae_ports.specs.Content.{Appends, AppendsFront}
use Rattle.rv_machine.specs.declared.outcome.MachineFault.{MachineFault}
use Rattle.rv_machine.specs.declared.outcome.Outcome.{Outcome}
use Rattle.rv_machine.specs.Held.{Held}
use Rattle.rv_machine.specs.Outcomes.{outcome_of, Reaches, FailsBefore}
use Rattle.rv_machine.specs.Ports.{Told, Counts, HasCauses}
use Rattle.rv_machine.specs.Run.{Run}
use Rattle.ae_top.specs.EndingLines.{line_of_outcome}
use Rattle.ae_top.specs.Inner.Machine.{BlamesStreams, TellsEnd}
use Rattle.ae_top.specs.Running.{GivesFronts, RanAs, ShowsEnd}
use Rattle.ae_top.specs.World.{Streams, Blames}
use Rattle.ae_top.proofs.Blamed.{unblamed, blamed}
use Rattle.ae_ports.proofs.LawsOfContent.{Appends-behind, AppendsFront-behind, AppendsFront-more, AppendsFront-all}

-- what streams tell of a machine's ports, with another second output
abbrev pub told_of : Streams → (err : Option (List ℕ)) → Told
told_of s err = record { input = s.input.told; out = s.out.told; err = err; events = None }

abbrev pub counts_of : Streams → (err items : ℕ) → Counts
counts_of s err items = record { input = s.input.faults; out = s.out.faults; err = err; events = 0; items = items }

-- the run's answer, and behind it the line of its ending
pub ran_told : (r : Run) (held : Held) (outcome : Outcome) (answer : Result Outcome MachineFault) (before now : Streams) (mid : Option (List ℕ))
    → outcome ≡ outcome_of r.ending → Reaches r.last (told_of before before.err.told) (told_of now mid) held → TellsEnd outcome answer mid now.err.told → RanAs answer r before now
ran_told r held outcome (Ok shown) before now mid is reaches tells = (
  tells.0 ∙ is,
  record {
    input = reaches.input;
    out = reaches.out;
    err = subst (λ (o : Outcome). Appends before.err.told now.err.told (r.last.err ++ line_of_outcome o)) is
        (Appends-behind before.err.told mid now.err.told r.last.err (line_of_outcome outcome) reaches.err tells.1);
  },
)
ran_told r held outcome (Err fault) before now mid is reaches tells =
    record {
      out = AppendsFront-all before.out.told now.out.told r.last.out reaches.out;
      err = subst (λ (o : Outcome). AppendsFront before.err.told now.err.told (r.last.err ++ line_of_outcome o)) is
          (AppendsFront-behind before.err.told mid now.err.told r.last.err (line_of_outcome outcome) reaches.err tells.1);
    }

-- a device failed in the midst of the run
pub ran_failed : (r : Run) (before now : Streams) → FailsBefore r.last (told_of before before.err.told) (told_of now now.err.told) → GivesFronts r before now
ran_failed r before now fails =
    record {
      out = fails.out;
      err = AppendsFront-more before.err.told now.err.told r.last.err (line_of_outcome (outcome_of r.ending)) fails.err;
    }

-- a run that was made, and whose ending isn't told
pub ran_untold : (r : Run) (held : Held) (before now : Streams) → Reaches r.last (told_of before before.err.told) (told_of now now.err.told) held → GivesFronts r before now
ran_untold r held before now reaches =
    record {
      out = AppendsFront-all before.out.told now.out.told r.last.out reaches.out;
      err = AppendsFront-more before.err.told now.err.told r.last.err (line_of_outcome (outcome_of r.ending))
          (AppendsFront-all before.err.told now.err.told r.last.err reaches.err);
    }

-- what is shown whatever the input tells
pub shows_told : (outcome : Outcome) (answer : Result Outcome MachineFault) (before mid now : Option (List ℕ)) (shown : List ℕ)
    → Appends before mid shown → TellsEnd outcome answer mid now → ShowsEnd answer before now
shows_told outcome (Ok other) before mid now shown passed tells = (
  shown,
  subst (λ (o : Outcome). Appends before now (shown ++ line_of_outcome o)) (sym tells.0) (Appends-behind before mid now shown (line_of_outcome outcome) passed tells.1),
)
shows_told outcome (Err fault) before mid now shown passed tells =
    (shown ++ take tells.1.0 (line_of_outcome outcome), Appends-behind before mid now shown (take tells.1.0 (line_of_outcome outcome)) passed tells.1.2)

-- only the second output may fail at the line of the ending
pub blames_told : (outcome : Outcome) (answer : Result Outcome MachineFault) (before now : Streams) (mid : ℕ) (told told_now : Option (List ℕ)) (items items_now : ℕ)
    → TellsEnd outcome answer told told_now → counts_of now mid items_now ≡ counts_of before before.err.faults items
    → Blames (IsErrOf answer MachineFault.ErrFault) mid now.err.faults → BlamesStreams answer before now
blames_told outcome (Ok shown) before now mid told told_now items items_now tells same err =
    record {
      input = unblamed _ _ _ (λ is. absurd (cc is)) (ap (λ c. c.input) same);
      out = unblamed _ _ _ (λ is. absurd (cc is)) (ap (λ c. c.out) same);
      err = unblamed _ _ _ (λ is. absurd (cc is)) (err.same (λ is. absurd (cc is)) ∙ ap (λ c. c.err) same);
    }
blames_told outcome (Err fault) before now mid told told_now items items_now tells same err =
    record {
      input = unblamed _ _ _ (λ is. absurd (cc (is, tells.0))) (ap (λ c. c.input) same);
      out = unblamed _ _ _ (λ is. absurd (cc (is, tells.0))) (ap (λ c. c.out) same);
      err = subst (λ (n : ℕ). Blames (IsErrOf {T = Outcome} (Err fault) MachineFault.ErrFault) n now.err.faults) (ap (λ c. c.err) same) err;
    }

pub tells_no_event : (outcome : Outcome) (answer : Result Outcome MachineFault) (told told_now : Option (List ℕ)) → TellsEnd outcome answer told told_now → IsErrOf answer MachineFault.EventFault → ⊥
tells_no_event outcome (Ok shown) told told_now tells is = absurd (cc is)
tells_no_event outcome (Err fault) told told_now tells is = absurd (cc (is, tells.0))

-- the device that failed in the midst of the run
pub blames_failed : (fault : MachineFault) (before now : Streams) (items items_now : ℕ)
    → HasCauses {T = Outcome} (Err fault) (counts_of before before.err.faults items) (counts_of now now.err.faults items_now) → BlamesStreams (Err fault) before now
blames_failed MachineFault.InputFault before now items items_now causes =
    record {
      input = blamed _ _ _ refl causes.0.later causes.0.risen;
      out = unblamed _ _ _ (λ is. absurd (cc is)) (ap (λ c. c.out) causes.1);
      err = unblamed _ _ _ (λ is. absurd (cc is)) (ap (λ c. c.err) causes.1);
    }
blames_failed MachineFault.OutFault before now items items_now causes =
    record {
      input = unblamed _ _ _ (λ is. absurd (cc is)) (ap (λ c. c.input) causes.1);
      out = blamed _ _ _ refl causes.0.later causes.0.risen;
      err = unblamed _ _ _ (λ is. absurd (cc is)) (ap (λ c. c.err) causes.1);
    }
blames_failed MachineFault.ErrFault before now items items_now causes =
    record {
      input = unblamed _ _ _ (λ is. absurd (cc is)) (ap (λ c. c.input) causes.1);
      out = unblamed _ _ _ (λ is. absurd (cc is)) (ap (λ c. c.out) causes.1);
      err = blamed _ _ _ refl causes.0.later causes.0.risen;
    }
blames_failed MachineFault.EventFault before now items items_now causes =
    record {
      input = unblamed _ _ _ (λ is. absurd (cc is)) (elim causes [ inl events ↦ ap (λ c. c.input) events.1 | inr items ↦ ap (λ c. c.input) items.1 ]);
      out = unblamed _ _ _ (λ is. absurd (cc is)) (elim causes [ inl events ↦ ap (λ c. c.out) events.1 | inr items ↦ ap (λ c. c.out) items.1 ]);
      err = unblamed _ _ _ (λ is. absurd (cc is)) (elim causes [ inl events ↦ ap (λ c. c.err) events.1 | inr items ↦ ap (λ c. c.err) items.1 ]);
    }

-- the run was made, and the store failed behind it
pub blames_unserved : (before now : Streams) (items items_now : ℕ) → counts_of now now.err.faults items_now ≡ counts_of before before.err.faults items
    → BlamesStreams (Err MachineFault.EventFault) before now
blames_unserved before now items items_now same =
    record {
      input = unblamed _ _ _ (λ is. absurd (cc is)) (ap (λ c. c.input) same);
      out = unblamed _ _ _ (λ is. absurd (cc is)) (ap (λ c. c.out) same);
      err = unblamed _ _ _ (λ is. absurd (cc is)) (ap (λ c. c.err) same);
    }

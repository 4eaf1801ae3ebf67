-- Texts that are written as far as memory is there, and what a sink has of them in the end.
use Rattle.std.proofs.Common.{◌≡◌, ℕ, List, [], ◌++◌, Option, Result, Ok, Err, refl, ap, ◌∙◌, subst, arith, append-nil, append_assoc}
use Rattle.std.specs.Prelude.{OnOk, OnErr, IsErrOf}
use Rattle.ae_ports.specs.declared.failed.Failed.{Failed}
use Rattle.ae_ports.specs.Content.{Appends, AppendsFront}
use Rattle.ae_ports.specs.Fault.{HasRisen}
use Rattle.ae_ports.proofs.LawsOfContent.{AppendsFront-all, AppendsFront-more}
use Rattle.ae_nums.specs.declared.writer.LineWriter.{LineWriter}
use Rattle.ae_nums.specs.Writer.{Written, Wrote, Puts, Finished}
use Rattle.ae_nums.proofs.LawsOfWriters.{Puts-both}
use Rattle.ae_print.specs.declared.fault.PrintFault.{PrintFault}
use Rattle.ae_print.specs.Inner.Short.{PutsShort}

-- so much of a text is written that a front of it has gone to the sink or waits
pub record FrontWritten {K : Type 0} (told : K → Option (List ℕ)) (faults : K → ℕ) (start : K) (lines : LineWriter K) (text : List ℕ) : Type 0 where
  pub front : List ℕ
  pub more : List ℕ
  pub is : front ++ more ≡ text
  pub written : Written told faults start lines front

module _ {K : Type 0} (told : K → Option (List ℕ)) (faults : K → ℕ) where
  -- what a sink has when a front of a text was written and the writer was finished
  pub front_finished : (start now : K) (lines : LineWriter K) (text : List ℕ) (end : Option (List ℕ)) (finished : Result Unit Failed) → told now ≡ end → (written : FrontWritten told faults start lines text) → Finished told faults start now written.front finished
      → AppendsFront (told start) end text
  front_finished start now lines text end (Ok done) is written finished =
      subst (λ (known : Option (List ℕ)). AppendsFront (told start) known text) is
      (subst (AppendsFront (told start) (told now)) written.is (AppendsFront-more (told start) (told now) written.front written.more (AppendsFront-all (told start) (told now) written.front finished.all)))
  front_finished start now lines text end (Err failed) is written finished =
      subst (λ (known : Option (List ℕ)). AppendsFront (told start) known text) is
      (subst (AppendsFront (told start) (told now)) written.is (AppendsFront-more (told start) (told now) written.front written.more finished.front))

  -- a call, and then one that may want memory
  module _ (same_rest : K → K → Type 0) where
    pub short_behind : ((one two three : K) → same_rest one two → same_rest two three → same_rest one three) → (one two three : LineWriter K) (first second : List ℕ) (result : Result Unit PrintFault)
        → Puts told faults same_rest one two first (Ok tt) → PutsShort told faults same_rest two three second result → PutsShort told faults same_rest one three (first ++ second) result
    short_behind joins one two three first second (Ok done) before after = Puts-both joins one two three first second first second (Ok tt) (Ok tt) before refl after refl
    short_behind joins one two three first second (Err PrintFault.Failed) before after =
        (after.0, λ result. Puts-both joins one two three first second first second (Ok tt) result before refl (after.1 result) refl)
    short_behind joins one two three first second (Err PrintFault.NoMemory) before after = (
      first ++ after.0,
      after.1,
      append_assoc first after.0 after.1 ∙ ap (λ (text : List ℕ). first ++ text) after.2,
      Puts-both joins one two three first after.0 first after.0 (Ok tt) (Ok tt) before refl after.3 refl,
    )

    pub front_written : (start : K) (one two : LineWriter K) (text : List ℕ) (result : Result Unit PrintFault) → Written told faults start one [] → PutsShort told faults same_rest one two text result → FrontWritten told faults start two text
    front_written start one two text (Ok done) begun puts = record { front = text; more = []; is = append-nil text; written = puts.wrote.behind start [] begun }
    front_written start one two text (Err PrintFault.Failed) begun puts = record { front = text; more = []; is = append-nil text; written = (puts.1 (Ok tt)).wrote.behind start [] begun }
    front_written start one two text (Err PrintFault.NoMemory) begun puts = record { front = puts.0; more = puts.1; is = puts.2; written = puts.3.wrote.behind start [] begun }

    -- all of a text, where all of it was written
    pub all_finished : (start now : K) (one two : LineWriter K) (text : List ℕ) (end : Option (List ℕ)) (done : Unit) (result : Result Unit PrintFault) → told now ≡ end → Written told faults start one [] → PutsShort told faults same_rest one two text result
        → ((written : List ℕ) → Written told faults start two written → Finished told faults start now written (Ok done)) → OnOk result (Appends (told start) end text)
    all_finished start now one two text end done (Ok all) is begun puts finished =
        subst (λ (known : Option (List ℕ)). Appends (told start) known text) is (finished text (puts.wrote.behind start [] begun)).all
    all_finished start now one two text end done (Err fault) is begun puts finished = tt

    -- a fault of the sink has its cause
    pub failed_risen : (start : K) (one two three : LineWriter K) (text : List ℕ) (end : ℕ) (result : Result Unit PrintFault) → faults three.sink.now ≡ end → Written told faults start one [] → PutsShort told faults same_rest one two text result
        → Wrote told faults two three [] → IsErrOf result PrintFault.Failed → HasRisen (faults start) end
    failed_risen start one two three text end (Ok all) same begun puts wrote is = absurd (cc is)
    failed_risen start one two three text end (Err PrintFault.NoMemory) same begun puts wrote is = absurd (cc is)
    failed_risen start one two three text end (Err PrintFault.Failed) same begun puts wrote is = λ small.
        let risen = ((puts.1 (Ok tt)).wrote.behind start [] begun).risen puts.0 small in
        let later = wrote.later in omega (arith, risen, later, same)

    rest_kept : (one two : LineWriter K) (text : List ℕ) (result : Result Unit PrintFault) → PutsShort told faults same_rest one two text result → same_rest one.sink.now two.sink.now
    rest_kept one two text (Ok done) puts = puts.rest.rest
    rest_kept one two text (Err PrintFault.Failed) puts = (puts.1 (Ok tt)).rest.rest
    rest_kept one two text (Err PrintFault.NoMemory) puts = puts.3.rest.rest

    -- the sink's rest is kept from when the writer was made to its finish
    pub rest_at : ((one two three : K) → same_rest one two → same_rest two three → same_rest one three) → (start now end : K) (one two : LineWriter K) (text : List ℕ) (result : Result Unit PrintFault)
        → one.sink.now ≡ start → now ≡ end → PutsShort told faults same_rest one two text result → same_rest two.sink.now now → same_rest start end
    rest_at joins start now end one two text result begun is puts last =
        subst (same_rest start) is (subst (λ (first : K). same_rest first now) begun (joins one.sink.now two.sink.now now (rest_kept one two text result puts) last))

-- what holds anyway holds after an error, and after success
pub on_error : (P : Type 0) (result : Result Unit PrintFault) → P → OnErr result P
on_error P (Ok done) holds = tt
on_error P (Err fault) holds = holds

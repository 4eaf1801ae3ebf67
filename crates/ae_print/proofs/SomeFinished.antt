-- What a sink has in the end of a text of which it is said what it says.
use Rattle.std.proofs.Common.{◌≡◌, ℕ, ◌≤◌, List, [], Option, Result, Ok, Err, sym, ◌∙◌, subst, arith}
use Rattle.std.specs.Prelude.{OnOk, OnErr}
use Rattle.ae_ports.specs.declared.failed.Failed.{Failed}
use Rattle.ae_ports.specs.Content.{Appends, AppendsFront}
use Rattle.ae_ports.specs.Fault.{HasCause, HasRisen}
use Rattle.ae_ports.proofs.LawsOfContent.{AppendsFront-all}
use Rattle.ae_nums.specs.declared.writer.LineWriter.{LineWriter}
use Rattle.ae_nums.specs.Writer.{Written, Finished}
use Rattle.ae_print.specs.Inner.SomePut.{PutsSome}
use Rattle.ae_print.specs.SomeText.{AppendsFrontOfSome, AppendsSome}

module _ {K : Type 0} (told : K → Option (List ℕ)) (faults : K → ℕ) (same_rest : K → K → Type 0) (P : List ℕ → Type 0) where
  -- it was written since the writer was made
  pub some_written : (start : K) (one two : LineWriter K) → Written told faults start one [] → (some : PutsSome told faults same_rest P one two) → Written told faults start two some.text
  some_written start one two begun some = some.puts.wrote.behind start [] begun

  -- the writer was finished: the sink has the text, or a front of it
  pub some_all : (start now : K) (end : Option (List ℕ)) (text : List ℕ) (finished : Result Unit Failed) → told now ≡ end → P text → Finished told faults start now text finished → OnOk finished (AppendsSome P (told start) end)
  some_all start now end text (Ok done) same is has = (text, is, subst (λ (known : Option (List ℕ)). Appends (told start) known text) same has.all)
  some_all start now end text (Err failed) same is has = tt

  pub some_front : (start now : K) (end : Option (List ℕ)) (text : List ℕ) (finished : Result Unit Failed) → told now ≡ end → P text → Finished told faults start now text finished → AppendsFrontOfSome P (told start) end
  some_front start now end text (Ok done) same is has = (text, is, subst (λ (known : Option (List ℕ)). AppendsFront (told start) known text) same (AppendsFront-all (told start) (told now) text has.all))
  some_front start now end text (Err failed) same is has = (text, is, subst (λ (known : Option (List ℕ)). AppendsFront (told start) known text) same has.front)

  -- the writer was let go: the sink has a front of the text
  pub some_let_go : (start now : K) (end : Option (List ℕ)) (text : List ℕ) → told now ≡ end → P text → AppendsFront (told start) (told now) text → AppendsFrontOfSome P (told start) end
  some_let_go start now end text same is front = (text, is, subst (λ (known : Option (List ℕ)). AppendsFront (told start) known text) same front)

-- what holds anyway holds after an error, and after success
pub in_error : {E : Type 0} (P : Type 0) (result : Result Unit E) → P → OnErr result P
in_error P (Ok done) holds = tt
in_error P (Err fault) holds = holds

pub in_success : {E : Type 0} (P : Type 0) (result : Result Unit E) → P → OnOk result P
in_success P (Ok done) holds = holds
in_success P (Err fault) holds = tt

-- what a cause says of the count in the end
pub same_count : (before now end : ℕ) (done : Unit) → now ≡ end → HasCause {T = Unit} before now (Ok done) → end ≡ before
same_count before now end done is cause = sym is ∙ cause.same

pub later_count : (before now end : ℕ) (result : Result Unit Failed) → now ≡ end → HasCause before now result → before ≤ end
later_count before now end result is cause = let later = cause.later in omega (arith, later, is)

pub risen_count : (before now end : ℕ) (failed : Failed) → now ≡ end → HasCause {T = Unit} before now (Err failed) → HasRisen before end
risen_count before now end failed is cause = subst (HasRisen before) is cause.risen

-- what comes of both answers
pub by_result : {E : Type 0} {A B C : Type 0} (result : Result Unit E) → OnOk result A → OnErr result B → (A → C) → (B → C) → C
by_result (Ok done) all front one other = one all
by_result (Err fault) all front one other = other front

pub under_success : {E : Type 0} {A B : Type 0} (result : Result Unit E) → OnOk result A → (A → B) → OnOk result B
under_success (Ok done) all next = next all
under_success (Err fault) all next = tt

-- a count that rose hasn't fallen since
pub risen_since : (before now after end : ℕ) → after ≡ end → HasRisen before now → now ≤ after → HasRisen before end
risen_since before now after end same risen later = λ small. let more = risen small in omega (arith, more, later, same)

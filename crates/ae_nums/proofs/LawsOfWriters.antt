-- Laws of what several calls write to a writer of lines, one after another. They have no code, and proofs of every crate may cite
-- them.
use Rattle.std.proofs.Common.{◌≡◌, ℕ, List, [], ◌++◌, true, Option, Result, Ok, refl, ◌∙◌, subst, append_assoc}
use Rattle.ae_ports.specs.declared.failed.Failed.{Failed}
use Rattle.ae_ports.proofs.LawsOfContent.{AppendsFront-more}
use Rattle.ae_ports.proofs.LawsOfFaults.{OnErr-always}
use Rattle.ae_nums.specs.declared.writer.LineWriter.{LineWriter}
use Rattle.ae_nums.specs.Writer.{Written, Wrote, Puts}
use Rattle.ae_nums.specs.scaffolding.Joining.{wrote_nothing, wrote_both}

-- once the sink has failed, it may be said that more was written: none of it goes to the sink
pub Written-more : {K : Type 0} (told : K → Option (List ℕ)) (faults : K → ℕ) (start : K) (now : LineWriter K) (text more : List ℕ) → now.broken ≡ true → Written told faults start now text → Written told faults start now (text ++ more)
Written-more told faults start now text more broken written = record {
  front = AppendsFront-more (told start) (told now.sink.now) text more written.front;
  waits = λ unbroken. absurd (cc (broken, unbroken));
  later = written.later;
  same = written.same;
  risen = written.risen;
}

module _ {K : Type 0} {told : K → Option (List ℕ)} {faults : K → ℕ} {same_rest : K → K → Type 0} where
  -- before any call
  pub Puts-none : (one : LineWriter K) → same_rest one.sink.now one.sink.now → Puts told faults same_rest one one [] (Ok tt)
  Puts-none one stays = record {
    wrote = wrote_nothing told faults one;
    broken = tt;
    rest = record { loan = refl; rest = stays };
  }

  -- a call, and then another
  pub Puts-both : ((one two three : K) → same_rest one two → same_rest two three → same_rest one three) → (one two three : LineWriter K) (first second wrote wrote_more : List ℕ) (result last : Result Unit Failed)
      → Puts told faults same_rest one two wrote result → wrote ≡ first → Puts told faults same_rest two three wrote_more last → wrote_more ≡ second → Puts told faults same_rest one three (first ++ second) last
  Puts-both joins one two three first second wrote wrote_more result last before is after is_more =
      let front = subst (Wrote told faults one two) is before.wrote in
      let rest = subst (Wrote told faults two three) is_more after.wrote in
      record {
        wrote = wrote_both told faults one two three first second front rest;
        broken = after.broken;
        rest = record {
          loan = before.rest.loan ∙ after.rest.loan;
          rest = joins one.sink.now two.sink.now three.sink.now before.rest.rest after.rest.rest;
        };
      }

  -- a call that failed, with what would have come behind
  pub Puts-front : (one two : LineWriter K) (first more wrote : List ℕ) (result last : Result Unit Failed) → two.broken ≡ true
      → Puts told faults same_rest one two wrote result → wrote ≡ first → Puts told faults same_rest one two (first ++ more) last
  Puts-front one two first more wrote result last broken before is =
      let front = subst (Wrote told faults one two) is before.wrote in
      record {
        wrote = record {
          behind = λ start text written.
              subst (Written told faults start two) (append_assoc text first more) (Written-more told faults start two (text ++ first) more broken (front.behind start text written));
          later = front.later;
          still = front.still;
        };
        broken = OnErr-always (two.broken ≡ true) last broken;
        rest = before.rest;
      }

  pub Puts-more : (one two : LineWriter K) (first more : List ℕ) (result : Result Unit Failed) → two.broken ≡ true
      → Puts told faults same_rest one two first result → Puts told faults same_rest one two (first ++ more) result
  Puts-more one two first more result broken before = Puts-front one two first more first result result broken before refl

  -- the same text
  pub Puts-same : (one two : LineWriter K) (wrote text : List ℕ) (result : Result Unit Failed) → Puts told faults same_rest one two wrote result → wrote ≡ text → Puts told faults same_rest one two text result
  Puts-same one two wrote text result puts is = subst (λ (t : List ℕ). Puts told faults same_rest one two t result) is puts

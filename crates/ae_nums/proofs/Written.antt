-- What stands of a text once a writer has handed on what waited, or has gathered more.
use Rattle.std.proofs.Common.{◌≡◌, ℕ, ◌≤◌, List, [], ◌++◌, length, take, drop, true, false, Option, Result, Ok, Err, sym, ap, ◌∙◌, subst, arith, length-append, take-append-drop}
use Rattle.std.specs.Prelude.{OnOk, OnErr}
use Rattle.std.proofs.Math.Seq.{take-length}
use Rattle.std.proofs.lemmas.List.{append-nil, drop_all, take-append-le, drop-append-le}
use Rattle.std.specs.Io.KnownBytes.{append_known}
use Rattle.ae_ports.specs.declared.failed.Failed.{Failed}
use Rattle.ae_ports.specs.Content.{Appends, AppendsFront}
use Rattle.ae_ports.specs.Fault.{HasRisen, HasCause}
use Rattle.ae_ports.proofs.LawsOfContent.{Appends-behind, AppendsFront-rest}
use Rattle.ae_nums.specs.declared.writer.LineWriter.{LineWriter}
use Rattle.ae_nums.proofs.LawsOfWriters.{Written-more}
use Rattle.ae_nums.specs.Writer.{Written, Wrote, SameSink, Puts, Finished}

module _ {K : Type 0} (told : K → Option (List ℕ)) (faults : K → ℕ) where
  same_text : (start : K) (writer : LineWriter K) (text : List ℕ) → Written told faults start writer (text ++ []) → Written told faults start writer text
  same_text start writer text written = subst (Written told faults start writer) (append-nil text) written

  -- all that waited was handed on
  handed_all : (before now : LineWriter K) (start : K) (text : List ℕ) → before.broken ≡ false → now.broken ≡ false → now.waiting ≡ []
      → Appends (told before.sink.now) (told now.sink.now) before.waiting → faults now.sink.now ≡ faults before.sink.now
      → Written told faults start before text → Written told faults start now text
  handed_all before now start text whole unbroken emptied sent same written =
      let rest = subst (Appends (told before.sink.now) (told now.sink.now)) (written.waits whole) sent in
      let pieces = Appends-behind (told start) (told before.sink.now) (told now.sink.now) (take written.front.0 text) (drop written.front.0 text) written.front.2 rest in
      let all = pieces ∙ ap (append_known (told start)) (take-append-drop written.front.0 text) in
      record {
        front = (length text, omega arith, all ∙ ap (append_known (told start)) (sym (take-length text)));
        waits = λ _. emptied ∙ sym (drop_all (length text) text (omega arith));
        later = omega (arith, same, written.later);
        same = λ _. same ∙ written.same whole;
        risen = λ broken. absurd (cc (broken, unbroken));
      }

  -- a front of what waited was handed on, and then the sink failed
  handed_front : (before now : LineWriter K) (start : K) (text : List ℕ) → before.broken ≡ false → now.broken ≡ true
      → AppendsFront (told before.sink.now) (told now.sink.now) before.waiting → faults before.sink.now ≤ faults now.sink.now → HasRisen (faults before.sink.now) (faults now.sink.now)
      → Written told faults start before text → Written told faults start now text
  handed_front before now start text whole broken sent later risen written =
      let rest = subst (AppendsFront (told before.sink.now) (told now.sink.now)) (written.waits whole) sent in
      let same = written.same whole in
      record {
        front = AppendsFront-rest (told start) (told before.sink.now) (told now.sink.now) text written.front.0 written.front.1 written.front.2 rest;
        waits = λ unbroken. absurd (cc (broken, unbroken));
        later = omega (arith, later, written.later);
        same = λ unbroken. absurd (cc (broken, unbroken));
        risen = λ _ small. omega (arith, same, risen (omega (arith, same, small)));
      }

  -- more was gathered
  gathered : (before now : LineWriter K) (start : K) (text more : List ℕ) → before.broken ≡ false → now.broken ≡ false → now.sink.now ≡ before.sink.now → now.waiting ≡ before.waiting ++ more
      → Written told faults start before text → Written told faults start now (text ++ more)
  gathered before now start text more whole unbroken sink waiting written =
      let count = written.front.0 in
      let within : count ≤ length text = written.front.1 in
      let same = ap faults sink in
      record {
        front = (
          count,
          omega (arith, length-append text more, within),
          ap told sink ∙ written.front.2 ∙ ap (append_known (told start)) (sym (take-append-le count text more within)),
        );
        waits = λ _. waiting ∙ ap (λ (l : List ℕ). l ++ more) (written.waits whole) ∙ sym (drop-append-le count text more within);
        later = omega (arith, same, written.later);
        same = λ _. same ∙ written.same whole;
        risen = λ broken. absurd (cc (broken, unbroken));
      }

  -- a writer handed on what waited
  pub hands_on : (before now : LineWriter K) (result : Result Unit Failed) → before.broken ≡ false → now.waiting ≡ [] → OnOk result (now.broken ≡ false) → OnErr result (now.broken ≡ true)
      → OnOk result (Appends (told before.sink.now) (told now.sink.now) before.waiting) → OnErr result (AppendsFront (told before.sink.now) (told now.sink.now) before.waiting)
      → HasCause (faults before.sink.now) (faults now.sink.now) result → Wrote told faults before now []
  hands_on before now (Ok done) whole emptied unbroken broken all front cause = record {
    behind = λ start text written.
        subst (Written told faults start now) (sym (append-nil text)) (handed_all before now start text whole unbroken emptied all cause.same written);
    later = cause.later;
    still = λ was_broken. absurd (cc (was_broken, whole));
  }
  hands_on before now (Err failed) whole emptied unbroken broken all front cause = record {
    behind = λ start text written.
        subst (Written told faults start now) (sym (append-nil text)) (handed_front before now start text whole broken front cause.later cause.risen written);
    later = cause.later;
    still = λ was_broken. absurd (cc (was_broken, whole));
  }

  -- a writer gathered a text
  pub gathers : (before now : LineWriter K) (text : List ℕ) → before.broken ≡ false → now.broken ≡ false → now.sink.now ≡ before.sink.now → now.waiting ≡ before.waiting ++ text → Wrote told faults before now text
  gathers before now text whole unbroken sink waiting = record {
    behind = λ start first written. gathered before now start first text whole unbroken sink waiting written;
    later = omega (arith, ap faults sink);
    still = λ was_broken. absurd (cc (was_broken, whole));
  }

  -- a call that failed before it gathered its text
  wrote_broken : (before now : LineWriter K) (text : List ℕ) → now.broken ≡ true → Wrote told faults before now [] → Wrote told faults before now text
  wrote_broken before now text broken wrote = record {
    behind = λ start first written. Written-more told faults start now first text broken (same_text start now first (wrote.behind start first written));
    later = wrote.later;
    still = wrote.still;
  }

  pub puts : (same_rest : K → K → Type 0) (before now : LineWriter K) (text : List ℕ) (result : Result Unit Failed) → OnOk result (Wrote told faults before now text) → OnErr result (Wrote told faults before now [])
      → OnErr result (now.broken ≡ true) → SameSink before.sink.ghost_name now.sink.ghost_name (same_rest before.sink.now now.sink.now) → Puts told faults same_rest before now text result
  puts same_rest before now text (Ok done) all some broken rest = record { wrote = all; broken = tt; rest = rest }
  puts same_rest before now text (Err failed) all some broken rest = record {
    wrote = wrote_broken before now text broken some;
    broken = broken;
    rest = rest;
  }

  -- where nothing is left to wait, all was handed on
  none_left : (count : ℕ) (text : List ℕ) → [] ≡ drop count text → take count text ≡ text
  none_left count text none =
      sym (append-nil (take count text)) ∙ ap (λ (l : List ℕ). take count text ++ l) none ∙ take-append-drop count text

  pub finishes : (before now : LineWriter K) (start : K) (text : List ℕ) (result : Result Unit Failed) → now.waiting ≡ [] → OnOk result (now.broken ≡ false) → OnErr result (now.broken ≡ true)
      → Wrote told faults before now [] → Written told faults start before text → Finished told faults start now.sink.now text result
  finishes before now start text (Ok done) emptied unbroken broken wrote written =
      let end = same_text start now text (wrote.behind start text written) in
      let all = none_left end.front.0 text (sym emptied ∙ end.waits unbroken) in
      record {
        all = end.front.2 ∙ ap (append_known (told start)) all;
        front = tt;
        cause = record { later = end.later; same = end.same unbroken; risen = tt };
      }
  finishes before now start text (Err failed) emptied unbroken broken wrote written =
      let end = same_text start now text (wrote.behind start text written) in
      record { all = tt; front = end.front; cause = record { later = end.later; same = tt; risen = end.risen broken } }

-- Bytes that pass, one piece after the other.
use Rattle.std.proofs.Common.{◌≡◌, ℕ, ◌+◌, List, [], ◌++◌, length, take, Option, None, Some, refl, sym, ap, ◌∙◌, arith, append_assoc, length-append}
use Rattle.std.proofs.lemmas.List.{append-nil, take_at}
use Rattle.std.specs.Io.KnownBytes.{append_known}
use Rattle.ae_ports.specs.Content.{Appends, AppendsFront}
use Rattle.ae_ports.proofs.LawsOfContent.{Appends-behind, Consumes-none, Consumes-behind}
use Rattle.rv_machine.specs.Laws.{IsFrontOf}
use Rattle.rv_machine.specs.State.{State}
use Rattle.rv_machine.specs.Held.{Outside}
use Rattle.rv_machine.specs.Ports.{Told, Passed, HasPassed, PassesOn}
use Rattle.rv_machine.specs.Inner.Advance.{Follows, GivenBefore}

abbrev pub nothing : Passed
nothing = record { taken = []; out = []; err = []; events = [] }

pub appends_nothing : (known : Option (List ℕ)) → Appends known known []
appends_nothing None = refl
appends_nothing (Some bytes) = ap Some (sym (append-nil bytes))

pub nothing_passed : (told : Told) → HasPassed told told nothing
nothing_passed told =
    record {
      input = Consumes-none told.input;
      out = appends_nothing told.out;
      err = appends_nothing told.err;
      events = appends_nothing told.events;
    }

pub nothing_follows : (outside : Outside) → Follows outside outside nothing
nothing_follows outside =
    record { out = sym (append-nil outside.out); err = sym (append-nil outside.err); events = sym (append-nil outside.events) }

abbrev pub both : Passed → Passed → Passed
both first second =
    record {
      taken = first.taken ++ second.taken;
      out = first.out ++ second.out;
      err = first.err ++ second.err;
      events = first.events ++ second.events;
    }

pub passed_both : (one two three : Told) (first second : Passed) → HasPassed one two first → HasPassed two three second → HasPassed one three (both first second)
passed_both one two three first second f g =
    record {
      input = Consumes-behind one.input two.input three.input first.taken second.taken f.input g.input;
      out = Appends-behind one.out two.out three.out first.out second.out f.out g.out;
      err = Appends-behind one.err two.err three.err first.err second.err f.err g.err;
      events = Appends-behind one.events two.events three.events first.events second.events f.events g.events;
    }

longer : (one two three first second : List ℕ) → two ≡ one ++ first → three ≡ two ++ second → three ≡ one ++ (first ++ second)
longer one two three first second f g = g ∙ ap (λ xs. xs ++ second) f ∙ append_assoc one first second

pub follows_both : (one two three : Outside) (first second : Passed) → Follows one two first → Follows two three second → Follows one three (both first second)
follows_both one two three first second f g =
    record {
      out = longer one.out two.out three.out first.out second.out f.out g.out;
      err = longer one.err two.err three.err first.err second.err f.err g.err;
      events = longer one.events two.events three.events first.events second.events f.events g.events;
    }

front_of_same : (xs ys : List ℕ) → ys ≡ xs → IsFrontOf xs ys
front_of_same xs ys same = ([], same ∙ sym (append-nil xs))

-- what was given on the way to the state after it
pub given_whole : (outside next : Outside) (passed : Passed) (s : State) → Follows outside next passed → s.out ≡ next.out → s.err ≡ next.err → s.events ≡ next.events → GivenBefore outside passed s
given_whole outside next passed s follows out err events =
    record {
      out = front_of_same (outside.out ++ passed.out) s.out (out ∙ follows.out);
      err = front_of_same (outside.err ++ passed.err) s.err (err ∙ follows.err);
      events = front_of_same (outside.events ++ passed.events) s.events (events ∙ follows.events);
    }

longer_front : (one two whole first second : List ℕ) → two ≡ one ++ first → IsFrontOf (two ++ second) whole → IsFrontOf (one ++ (first ++ second)) whole
longer_front one two whole first second f front = (front.0, front.1 ∙ ap (λ xs. xs ++ front.0) (ap (λ xs. xs ++ second) f ∙ append_assoc one first second))

-- some bytes passed before, and then some on the way
pub given_both : (one two : Outside) (first second : Passed) (s : State) → Follows one two first → GivenBefore two second s → GivenBefore one (both first second) s
given_both one two first second s f g =
    record {
      out = longer_front one.out two.out s.out first.out second.out f.out g.out;
      err = longer_front one.err two.err s.err first.err second.err f.err g.err;
      events = longer_front one.events two.events s.events first.events second.events f.events g.events;
    }

-- a front of a whole was appended
pub appends_front : (before now : Option (List ℕ)) (front whole : List ℕ) → Appends before now front → IsFrontOf front whole → AppendsFront before now whole
appends_front before now front whole appends is =
    let size : length whole ≡ length front + length is.0 = ap length is.1 ∙ length-append front is.0 in
    (length front, omega (arith, size), appends ∙ ap (λ xs. append_known before xs) (sym (ap (λ xs. take (length front) xs) is.1 ∙ take_at front is.0 (length front) refl)))

pub pass_on : (one two three : Told) → PassesOn one two → PassesOn two three → PassesOn one three
pass_on one two three f g = (both f.0 g.0, passed_both one two three f.0 g.0 f.1 g.1)

-- The loop of a run: what was done so far, and what is left of the run.
use Rattle.std.proofs.Common.{◌≡◌, ℕ, suc, ◌+◌, ◌-◌, ◌<◌, ◌≤◌, List, [], ◌++◌, length, take, Option, Some, Result, Ok, Err, refl, sym, ap, ◌∙◌, subst, arith, append_assoc, length-append}
use Rattle.std.proofs.Math.Seq.{take-append-add}
use Rattle.std.proofs.lemmas.List.{append-nil, take-append-le}
use Rattle.std.specs.Io.KnownBytes.{append_known}
use Rattle.std.specs.Result.{IsErr, OnErr}
use Rattle.ae_nums.specs.declared.item.Item.{Item}
use Rattle.ae_ports.specs.declared.failed.Failed.{Failed}
use Rattle.rv_code.specs.declared.ending.Ending.{Ending}
use Rattle.rv_memory.specs.Outline.{outline}
use Rattle.rv_machine.specs.declared.outcome.Outcome.{Outcome}
use Rattle.rv_machine.specs.declared.outcome.Outcome.TheVariants.{Ended, Spent}
use Rattle.rv_machine.specs.declared.outcome.MachineFault.{MachineFault}
use Rattle.rv_machine.specs.State.{State}
use Rattle.rv_machine.specs.Step.{Program, StepOutcome, Went, EndedWith, step_of}
use Rattle.rv_machine.specs.Run.{Run, not_begun, first_step, run, items_with, items_from}
use Rattle.rv_machine.specs.Laws.{HasGiven}
use Rattle.rv_machine.specs.Held.{Held, Outside, fresh, program_in, state_of}
use Rattle.rv_machine.specs.Ports.{Told, Passed, HasPassed}
use Rattle.rv_machine.specs.Outcomes.{Reaches, TookFront, RunComesTo, Runs}
use Rattle.rv_machine.specs.Inner.Advance.{Stays, Follows, GivenBefore, WentOn, Stops, Breaks, TurnedOn, TurnedOff, BreaksOff, Turns, state_after, items_in_outcome}
use Rattle.rv_machine.proofs.Given.{nothing_given, outputs_only_grow, front_of_front}
use Rattle.rv_machine.proofs.Passing.{nothing, nothing_passed, nothing_follows, both, passed_both, follows_both, given_whole, given_both, appends_front}
use Rattle.rv_machine.proofs.Runs.{run-zero, run-suc, items-zero, items-suc}

-- all of some items, and a front of others
pub front_second : (first second : List Item) (took took_second took_both : List Item → Type 0) → ((xs ys : List Item) → took xs → took_second ys → took_both (xs ++ ys))
    → took first → TookFront took_second second → TookFront took_both (first ++ second)
front_second first second took took_second took_both join all front = (
  length first + front.0,
  omega (arith, front.1, length-append first second),
  subst took_both (sym (take-append-add first second front.0)) (join first (take front.0 second) all front.2),
)

pub front_after : (result : Result Unit Failed) (first second : List Item) (took took_second took_both : List Item → Type 0) → ((xs ys : List Item) → took xs → took_second ys → took_both (xs ++ ys))
    → took first → OnErr result (TookFront took_second second) → OnErr result (TookFront took_both (first ++ second))
front_after (Ok done) first second took took_second took_both join all front = tt
front_after (Err failed) first second took took_second took_both join all front = front_second first second took took_second took_both join all front

-- a turn that failed

pub breaks : (outcome : Outside → StepOutcome) (before now : Held) (told told_now : Told) (took : List Item → Type 0)
    → Breaks outcome before told now told_now → took [] → BreaksOff outcome before told took now told_now
breaks outcome before now told told_now took broke none =
    record {
      passed = broke.passed;
      ports = broke.ports;
      step = λ outside tells.
          let way = broke.step outside tells in
          subst (λ o. GivenBefore outside broke.passed (state_after (state_of before outside) o) × TookFront took (items_in_outcome o)) (sym way.2)
          (way.3, (0, omega arith, none));
      stays = broke.stays;
    }

pub went_but : (outcome : Outside → StepOutcome) (before now : Held) (told told_now : Told) (items : List Item) (took : List Item → Type 0)
    → WentOn outcome before told items now told_now → TookFront took items → BreaksOff outcome before told took now told_now
went_but outcome before now told told_now items took went front =
    record {
      passed = went.passed;
      ports = went.ports;
      step = λ outside tells.
          let way = went.step outside tells in
          subst (λ o. GivenBefore outside went.passed (state_after (state_of before outside) o) × TookFront took (items_in_outcome o)) (sym way.3)
          (given_whole outside way.0 went.passed (state_of now way.0) way.1 refl refl refl, front);
      stays = went.stays;
    }

pub ended_but : (outcome : Outside → StepOutcome) (before now : Held) (told told_now : Told) (ending : Ending) (items : List Item) (took : List Item → Type 0)
    → Stops outcome before told ending items now told_now → TookFront took items → BreaksOff outcome before told took now told_now
ended_but outcome before now told told_now ending items took stops front =
    record {
      passed = nothing;
      ports = subst (λ (t : Told). HasPassed told t nothing) (sym stops.ports) (nothing_passed told);
      step = λ outside tells.
          subst (λ o. GivenBefore outside nothing (state_after (state_of before outside) o) × TookFront took (items_in_outcome o)) (sym (stops.step outside))
          (given_whole outside outside nothing (state_of before outside) (nothing_follows outside) refl refl refl, front);
      stays = record {
        program = ap program_in stops.same;
        note = ap (λ (h : Held). h.note) stops.same;
        outline = ap (λ (h : Held). outline h.memory.stretches) stops.same;
        kept = ap (λ (h : Held). h.kept) stops.same;
      };
    }

pub fails : (outcome : Outside → StepOutcome) (before now : Held) (told told_now : Told) (took : List Item → Type 0) (result : Result (Option Ending) MachineFault)
    → IsErr result → BreaksOff outcome before told took now told_now → Turns outcome before told took result now told_now
fails outcome before now told told_now took (Ok ending) is broke = absurd (cc is)
fails outcome before now told told_now took (Err fault) is broke = broke

-- the loop

-- a run with so many steps before it
abbrev later : ℕ → Run → Run
later made r = record { last = r.last; ending = r.ending; steps = made + r.steps }

-- where so many steps of a run led to, at this outside
pub record GoneTo (before : Held) (outside : Outside) (fuel made : ℕ) (passed : Passed) (so_far : List Item) (now : Held) (told_now : Told) : Type 0 where
  pub next : Outside
  pub follows : Follows outside next passed
  pub input : told_now.input ≡ Some next.input
  pub run : run (program_in before) fuel (state_of before outside) ≡ later made (run (program_in before) (fuel - made) (state_of now next))
  pub items : items_from (program_in before) fuel (state_of before outside) ≡ so_far ++ items_from (program_in before) (fuel - made) (state_of now next)

-- a machine has made so many steps of a run, none of which ended
pub record HasGone (took : List Item → Type 0) (before : Held) (told : Told) (fuel made : ℕ) (now : Held) (told_now : Told) : Type 0 where
  pub passed : Passed
  pub ports : HasPassed told told_now passed
  pub items : List Item
  pub taken : took items
  pub goes : (outside : Outside) → told.input ≡ Some outside.input → GoneTo before outside fuel made passed items now told_now
  pub stays : Stays before now

pub begun : (took : List Item → Type 0) (held : Held) (told : Told) (fuel : ℕ) → took [] → HasGone took held told fuel 0 held told
begun took held told fuel none =
    let all : fuel ≡ fuel - 0 = omega arith in
    record {
      passed = nothing;
      ports = nothing_passed told;
      items = [];
      taken = none;
      goes = λ outside tells.
          let r = run (program_in held) fuel (state_of held outside) in
          let steps : r.steps ≡ 0 + r.steps = omega arith in
          record {
            next = outside;
            follows = nothing_follows outside;
            input = tells;
            run = (λ i. record { last = r.last; ending = r.ending; steps = steps i })
                ∙ ap (λ count. later 0 (run (program_in held) count (state_of held outside))) all;
            items = ap (λ count. items_from (program_in held) count (state_of held outside)) all;
          };
      stays = record { program = refl; note = refl; outline = refl; kept = refl };
    }

-- the step that comes next, in the run that is left
module _ (program : Program) (fuel made : ℕ) (left : made < fuel) (s : State) where
  one_left : fuel - made ≡ suc (fuel - (made + 1))
  one_left = omega arith

  run_left : run program (fuel - made) s ≡ first_step s (step_of program s) (λ t. run program (fuel - (made + 1)) t)
  run_left = ap (λ count. run program count s) one_left ∙ run-suc program (fuel - (made + 1)) s

  items_left : items_from program (fuel - made) s ≡ items_with (step_of program s) (λ t. items_from program (fuel - (made + 1)) t)
  items_left = ap (λ count. items_from program count s) one_left ∙ items-suc program (fuel - (made + 1)) s

later-first_step : (made : ℕ) (s : State) (o : StepOutcome) (t : State) (items : List Item) (rest : State → Run) → o ≡ Went t items → later made (first_step s o rest) ≡ later (made + 1) (rest t)
later-first_step made s o t items rest is =
    let r = rest t in
    let more : made + suc r.steps ≡ made + 1 + r.steps = omega arith in
    ap (λ p. later made (first_step s p rest)) is ∙ (λ i. record { last = r.last; ending = r.ending; steps = more i })

stays_both : (one two three : Held) → Stays one two → Stays two three → Stays one three
stays_both one two three f g = record { program = g.program ∙ f.program; note = g.note ∙ f.note; outline = g.outline ∙ f.outline; kept = g.kept ∙ f.kept }

pub went_on : (before now next : Held) (told told_now told_next : Told) (fuel made : ℕ) (took took_step took_both : List Item → Type 0)
    → ((first second : List Item) → took first → took_step second → took_both (first ++ second))
    → made < fuel → HasGone took before told fuel made now told_now
    → TurnedOn (λ outside. step_of (program_in now) (state_of now outside)) now told_now took_step next told_next
    → HasGone took_both before told fuel (made + 1) next told_next
went_on before now next told told_now told_next fuel made took took_step took_both join left so_far turned =
    let went = turned.went in
    record {
      passed = both so_far.passed went.passed;
      ports = passed_both told told_now told_next so_far.passed went.passed so_far.ports went.ports;
      items = so_far.items ++ turned.items;
      taken = join so_far.items turned.items so_far.taken turned.taken;
      goes = λ outside tells.
          let gone = so_far.goes outside tells in
          let way = went.step gone.next gone.input in
          let s : State = state_of now gone.next in
          let t : State = state_of next way.0 in
          let step : step_of (program_in before) s ≡ Went t turned.items = subst (λ p. step_of p s ≡ Went t turned.items) so_far.stays.program way.3 in
          record {
            next = way.0;
            follows = follows_both outside gone.next way.0 so_far.passed went.passed gone.follows way.1;
            input = way.2;
            run = gone.run
                ∙ ap (later made) (run_left (program_in before) fuel made left s)
                ∙ later-first_step made s (step_of (program_in before) s) t turned.items (λ q. run (program_in before) (fuel - (made + 1)) q) step;
            items = gone.items
                ∙ ap (λ xs. so_far.items ++ xs) (items_left (program_in before) fuel made left s ∙ ap (λ o. items_with o (λ q. items_from (program_in before) (fuel - (made + 1)) q)) step)
                ∙ sym (append_assoc so_far.items turned.items (items_from (program_in before) (fuel - (made + 1)) t));
          };
      stays = stays_both before now next so_far.stays went.stays;
    }

-- what a run comes to, by what it is equal to
comes : (r q : Run) (items others : List Item) (before : Told) (took : List Item → Type 0) (result : Result Outcome MachineFault) (held : Held) (now : Told)
    → r ≡ q → items ≡ others → RunComesTo q others before took result held now → RunComesTo r items before took result held now
comes r q items others before took result held now same_run same_items h =
    subst (λ (p : Run). RunComesTo p items before took result held now) (sym same_run)
    (subst (λ xs. RunComesTo q xs before took result held now) (sym same_items) h)

-- the outputs have got what the state has of them
reaches : (told told_now : Told) (bytes : List ℕ) (now : Held) (next : Outside) (passed : Passed) → HasPassed told told_now passed → Follows (fresh bytes) next passed
    → told_now.input ≡ Some next.input → Reaches (state_of now next) told told_now now
reaches told told_now bytes now next passed ports follows input =
    record {
      state = refl;
      input = input;
      out = subst (λ xs. told_now.out ≡ append_known told.out xs) (sym follows.out) ports.out;
      err = subst (λ xs. told_now.err ≡ append_known told.err xs) (sym follows.err) ports.err;
      events = subst (λ xs. told_now.events ≡ append_known told.events xs) (sym follows.events) ports.events;
    }

pub spent : (before now : Held) (told told_now : Told) (fuel made : ℕ) (took : List Item → Type 0) → HasGone took before told fuel made now told_now → made ≡ fuel
    → (bytes : List ℕ) → told.input ≡ Some bytes → Runs bytes fuel before told took (Ok Spent) now told_now
spent before now told told_now fuel made took so_far all bytes tells =
    let gone = so_far.goes (fresh bytes) tells in
    let none_left : fuel - made ≡ 0 = omega arith in
    let s : State = state_of now gone.next in
    comes (run (program_in before) fuel (state_of before (fresh bytes))) (later made (not_begun s))
    (items_from (program_in before) fuel (state_of before (fresh bytes))) so_far.items told took (Ok Spent) now told_now
    (gone.run ∙ ap (λ count. later made (run (program_in before) count s)) none_left ∙ ap (later made) (run-zero (program_in before) s))
    (gone.items ∙ ap (λ count. so_far.items ++ items_from (program_in before) count s) none_left ∙ ap (λ xs. so_far.items ++ xs) (items-zero (program_in before) s) ∙ append-nil so_far.items)
    (refl, reaches told told_now bytes now gone.next so_far.passed so_far.ports gone.follows gone.input, so_far.taken)

pub ended : (before now next : Held) (told told_now told_next : Told) (fuel made : ℕ) (took took_step took_both : List Item → Type 0) (ending : Ending)
    → ((first second : List Item) → took first → took_step second → took_both (first ++ second))
    → made < fuel → HasGone took before told fuel made now told_now
    → TurnedOff (λ outside. step_of (program_in now) (state_of now outside)) now told_now took_step ending next told_next
    → (bytes : List ℕ) → told.input ≡ Some bytes → Runs bytes fuel before told took_both (Ok (Ended ending)) next told_next
ended before now next told told_now told_next fuel made took took_step took_both ending join left so_far turned bytes tells =
    let gone = so_far.goes (fresh bytes) tells in
    let s : State = state_of now gone.next in
    let step : step_of (program_in before) s ≡ EndedWith ending turned.items = subst (λ p. step_of p s ≡ EndedWith ending turned.items) so_far.stays.program (turned.stops.step gone.next) in
    let rest : State → Run = λ q. run (program_in before) (fuel - (made + 1)) q in
    let there : Reaches s told told_next next =
    subst (λ (h : Held). Reaches s told told_next h) (sym turned.stops.same)
    (subst (λ (t : Told). Reaches s told t now) (sym turned.stops.ports) (reaches told told_now bytes now gone.next so_far.passed so_far.ports gone.follows gone.input)) in
    comes (run (program_in before) fuel (state_of before (fresh bytes))) (later made (first_step s (EndedWith ending turned.items) rest))
    (items_from (program_in before) fuel (state_of before (fresh bytes))) (so_far.items ++ turned.items) told took_both (Ok (Ended ending)) next told_next
    (gone.run ∙ ap (later made) (run_left (program_in before) fuel made left s) ∙ ap (λ o. later made (first_step s o rest)) step)
    (gone.items ∙ ap (λ xs. so_far.items ++ xs) (items_left (program_in before) fuel made left s ∙ ap (λ o. items_with o (λ q. items_from (program_in before) (fuel - (made + 1)) q)) step))
    (refl, there, join so_far.items turned.items so_far.taken turned.taken)

-- what was given by a step stays given in the run
given_in_run : (program : Program) (count : ℕ) (s : State) (o : StepOutcome) → HasGiven (state_after s o) (first_step s o (λ q. run program count q)).last
given_in_run program count s (Went t items) = outputs_only_grow program count t
given_in_run program count s (EndedWith ending items) = nothing_given s

items_front : (o : StepOutcome) (rest : State → List Item) → (after : List Item) × (items_with o rest ≡ items_in_outcome o ++ after)
items_front (Went t items) rest = (rest t, refl)
items_front (EndedWith ending items) rest = ([], sym (append-nil items))

-- a front of a step's items behind all that came before is a front of a run's
front_behind : (so_far step all after : List Item) (count : ℕ) → count ≤ length step → all ≡ so_far ++ (step ++ after) → take (length so_far + count) all ≡ so_far ++ take count step
front_behind so_far step all after count within is =
    ap (λ xs. take (length so_far + count) xs) is ∙ take-append-add so_far (step ++ after) count ∙ ap (λ xs. so_far ++ xs) (take-append-le count step after within)

pub broke : (before now next : Held) (told told_now told_next : Told) (fuel made : ℕ) (took took_step took_both : List Item → Type 0) (result : Result Outcome MachineFault)
    → ((first second : List Item) → took first → took_step second → took_both (first ++ second)) → IsErr result
    → made < fuel → HasGone took before told fuel made now told_now
    → BreaksOff (λ outside. step_of (program_in now) (state_of now outside)) now told_now took_step next told_next
    → (bytes : List ℕ) → told.input ≡ Some bytes → Runs bytes fuel before told took_both result next told_next
broke before now next told told_now told_next fuel made took took_step took_both (Ok outcome) join is left so_far off bytes tells = absurd (cc is)
broke before now next told told_now told_next fuel made took took_step took_both (Err fault) join is left so_far off bytes tells =
    let gone = so_far.goes (fresh bytes) tells in
    let s : State = state_of now gone.next in
    let here : StepOutcome = step_of (program_in before) s in
    let way = subst (λ p. GivenBefore gone.next off.passed (state_after s (step_of p s)) × TookFront took_step (items_in_outcome (step_of p s))) so_far.stays.program (off.step gone.next gone.input) in
    let rest : State → Run = λ q. run (program_in before) (fuel - (made + 1)) q in
    let more : State → List Item = λ q. items_from (program_in before) (fuel - (made + 1)) q in
    let whole : Run = first_step s here rest in
    let given : GivenBefore (fresh bytes) (both so_far.passed off.passed) (state_after s here) = given_both (fresh bytes) gone.next so_far.passed off.passed (state_after s here) gone.follows way.0 in
    let grows : HasGiven (state_after s here) whole.last = given_in_run (program_in before) (fuel - (made + 1)) s here in
    let ports = passed_both told told_now told_next so_far.passed off.passed so_far.ports off.ports in
    let split = items_front here more in
    let all = so_far.items ++ items_with here more in
    let front = way.1 in
    let is_all : all ≡ so_far.items ++ (items_in_outcome here ++ split.0) = ap (λ xs. so_far.items ++ xs) split.1 in
    comes (run (program_in before) fuel (state_of before (fresh bytes))) (later made whole)
    (items_from (program_in before) fuel (state_of before (fresh bytes))) all told took_both (Err fault) next told_next
    (gone.run ∙ ap (later made) (run_left (program_in before) fuel made left s))
    (gone.items ∙ ap (λ xs. so_far.items ++ xs) (items_left (program_in before) fuel made left s)) (
      record {
        taken = (so_far.passed.taken ++ off.passed.taken, ports.input);
        out = appends_front told.out told_next.out (so_far.passed.out ++ off.passed.out) whole.last.out ports.out (front_of_front (so_far.passed.out ++ off.passed.out) (state_after s here).out whole.last.out given.out grows.out);
        err = appends_front told.err told_next.err (so_far.passed.err ++ off.passed.err) whole.last.err ports.err (front_of_front (so_far.passed.err ++ off.passed.err) (state_after s here).err whole.last.err given.err grows.err);
        events = appends_front told.events told_next.events (so_far.passed.events ++ off.passed.events) whole.last.events ports.events (front_of_front (so_far.passed.events ++ off.passed.events) (state_after s here).events whole.last.events given.events grows.events);
      },
      (
        length so_far.items + front.0,
        omega (arith, front.1, ap length is_all, length-append so_far.items (items_in_outcome here ++ split.0), length-append (items_in_outcome here) split.0),
        subst took_both (sym (front_behind so_far.items (items_in_outcome here) all split.0 front.0 front.1 is_all))
            (join so_far.items (take front.0 (items_in_outcome here)) so_far.taken front.2),
      ),
    )

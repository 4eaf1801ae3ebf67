-- What was given stays given.
use Rattle.std.proofs.Common.{ℕ, zero, suc, List, [], ◌++◌, refl, sym, ap, ◌∙◌, subst, append_assoc}
use Rattle.std.proofs.lemmas.List.{append-nil}
use Rattle.rv_code.specs.Table.{meaning_of}
use Rattle.rv_machine.specs.State.{State}
use Rattle.rv_machine.specs.Effect.{Effect, Passes, Sets, Stores, Jumps, Gives, Takes, Ends, Out, Err, Events}
use Rattle.rv_machine.specs.Calls.{effect_of}
use Rattle.rv_machine.specs.Step.{StepOutcome, Went, EndedWith, settled, step_of, AfterStep}
use Rattle.rv_machine.specs.Run.{Run, first_step, run}
use Rattle.rv_machine.specs.Laws.{IsFrontOf, HasGiven, OutputsGrow}
use Rattle.rv_machine.proofs.Runs.{run-zero, run-suc}
use Rattle.rv_machine.proofs.Mapped.{after_step}

front_of_itself : (bytes : List ℕ) → IsFrontOf bytes bytes
front_of_itself bytes = ([], sym (append-nil bytes))

front_of_more : (bytes more : List ℕ) → IsFrontOf bytes (bytes ++ more)
front_of_more bytes more = (more, refl)

pub front_of_front : (one two three : List ℕ) → IsFrontOf one two → IsFrontOf two three → IsFrontOf one three
front_of_front one two three f g = (f.0 ++ g.0, g.1 ∙ ap (λ xs. xs ++ g.0) f.1 ∙ append_assoc one f.0 g.0)

pub nothing_given : (s : State) → HasGiven s s
nothing_given s = record { out = front_of_itself s.out; err = front_of_itself s.err; events = front_of_itself s.events }

given_both : (one two three : State) → HasGiven one two → HasGiven two three → HasGiven one three
given_both one two three f g =
    record {
      out = front_of_front one.out two.out three.out f.out g.out;
      err = front_of_front one.err two.err three.err f.err g.err;
      events = front_of_front one.events two.events three.events f.events g.events;
    }

settled_gives : (s : State) (effect : Effect) → AfterStep (settled s effect) (HasGiven s)
settled_gives s Passes = record { out = front_of_itself s.out; err = front_of_itself s.err; events = front_of_itself s.events }
settled_gives s (Sets register value access) = record { out = front_of_itself s.out; err = front_of_itself s.err; events = front_of_itself s.events }
settled_gives s (Stores addresses bytes access) = record { out = front_of_itself s.out; err = front_of_itself s.err; events = front_of_itself s.events }
settled_gives s (Jumps link target) = record { out = front_of_itself s.out; err = front_of_itself s.err; events = front_of_itself s.events }
settled_gives s (Gives Out bytes) = record { out = front_of_more s.out bytes; err = front_of_itself s.err; events = front_of_itself s.events }
settled_gives s (Gives Err bytes) = record { out = front_of_itself s.out; err = front_of_more s.err bytes; events = front_of_itself s.events }
settled_gives s (Gives Events bytes) = record { out = front_of_itself s.out; err = front_of_itself s.err; events = front_of_more s.events bytes }
settled_gives s (Takes addresses) = record { out = front_of_itself s.out; err = front_of_itself s.err; events = front_of_itself s.events }
settled_gives s (Ends ending) = tt

first_step_gives : (s : State) (o : StepOutcome) (rest : State → Run) → AfterStep o (HasGiven s) → ((t : State) → HasGiven t (rest t).last) → HasGiven s (first_step s o rest).last
first_step_gives s (Went t items) rest h k = given_both s t (rest t).last h (k t)
first_step_gives s (EndedWith ending items) rest h k = nothing_given s

pub outputs_only_grow : OutputsGrow
outputs_only_grow program zero s = subst (λ (r : Run). HasGiven s r.last) (sym (run-zero program s)) (nothing_given s)
outputs_only_grow program (suc count) s =
    subst (λ (r : Run). HasGiven s r.last) (sym (run-suc program count s))
    (first_step_gives s (step_of program s) (λ next. run program count next) (after_step (HasGiven s) program s (λ word. settled_gives s (effect_of program.has_note (meaning_of word) s.pc s.registers s.memory))) (λ t. outputs_only_grow program count t))

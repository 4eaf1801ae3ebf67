-- What a step leaves mapped.
use Rattle.std.proofs.Common.{◌≡◌, ℕ, Option, None, Some, refl}
use Rattle.rv_code.specs.Table.{meaning_of}
use Rattle.rv_memory.specs.Memory.{permission_at}
use Rattle.rv_memory.proofs.LawsOfCells.{permission_at-written}
use Rattle.rv_machine.specs.State.{State}
use Rattle.rv_machine.specs.Effect.{Effect, Passes, Sets, Stores, Jumps, Gives, Takes, Ends, Out, Err, Events}
use Rattle.rv_machine.specs.Calls.{effect_of}
use Rattle.rv_machine.specs.Step.{Program, program_of, StepOutcome, Went, EndedWith, settled, after_fetch, carried_out, fetched, step_of, AfterStep}
use Rattle.rv_machine.specs.Laws.{KeepsTracers, KeepsRegions}

-- what holds after an effect holds after the step that has it
pub after_effect : (P : State → Type 0) (pc : ℕ) (o : StepOutcome) → AfterStep o P → AfterStep (after_fetch pc o) P
after_effect P pc (Went s items) h = h
after_effect P pc (EndedWith ending items) h = h

-- what holds after each effect that a word may have holds after a step
pub after_step : (P : State → Type 0) (program : Program) (s : State) → ((word : ℕ) → AfterStep (settled s (effect_of program.has_note (meaning_of word) s.pc s.registers s.memory)) P) → AfterStep (step_of program s) P
unfolding step_of
after_step P program s h = go (fetched program s)
  where
    go : (word : Option ℕ) → AfterStep (carried_out program.has_note s word) P
    go None = tt
    go (Some word) = after_effect P s.pc (settled s (effect_of program.has_note (meaning_of word) s.pc s.registers s.memory)) (h word)

-- what is mapped after a step, and whether it is writable
abbrev SamePermissions : State → State → Type 0
SamePermissions s next = (address : ℕ) → permission_at next.memory address ≡ permission_at s.memory address

settled_keeps : (s : State) (effect : Effect) → AfterStep (settled s effect) (SamePermissions s)
settled_keeps s Passes = λ address. refl
settled_keeps s (Sets register value access) = λ address. refl
settled_keeps s (Stores addresses bytes access) = λ address. permission_at-written s.memory addresses bytes address
settled_keeps s (Jumps link target) = λ address. refl
settled_keeps s (Gives Out bytes) = λ address. refl
settled_keeps s (Gives Err bytes) = λ address. refl
settled_keeps s (Gives Events bytes) = λ address. refl
settled_keeps s (Takes addresses) = λ address. permission_at-written s.memory addresses _ address
settled_keeps s (Ends ending) = tt

step_keeps : (program : Program) (s : State) → AfterStep (step_of program s) (SamePermissions s)
step_keeps program s = after_step (SamePermissions s) program s (λ word. settled_keeps s (effect_of program.has_note (meaning_of word) s.pc s.registers s.memory))

weaker_after : (P Q : State → Type 0) (o : StepOutcome) → ((next : State) → P next → Q next) → AfterStep o P → AfterStep o Q
weaker_after P Q (Went next items) f h = f next h
weaker_after P Q (EndedWith ending items) f h = tt

pub tracers_stay : KeepsTracers
tracers_stay program s = weaker_after (SamePermissions s) _ (step_of program s) (λ next same. λ address above. same address) (step_keeps program s)

pub regions_stay : KeepsRegions
regions_stay image s = weaker_after (SamePermissions s) _ (step_of (program_of image) s) (λ next same. λ address mapped. same address) (step_keeps (program_of image) s)

-- A step that calls no port and doesn't end, as a turn.
use Rattle.std.proofs.Common.{◌≡◌, ℕ, List, ◌∷◌, Option, Result, ap, subst}
use Rattle.std.specs.Option.{option_to_list}
use Rattle.ae_nums.specs.declared.item.Item.{Item}
use Rattle.ae_nums.specs.declared.item.Item.TheVariants.{Fetch}
use Rattle.rv_code.specs.declared.ending.Ending.{Ending}
use Rattle.rv_machine.specs.declared.acted.Gone.{Gone}
use Rattle.rv_machine.specs.declared.outcome.MachineFault.{MachineFault}
use Rattle.rv_machine.specs.Held.{Held, Outside, program_in, state_of}
use Rattle.rv_machine.specs.Outcomes.{TookFront}
use Rattle.rv_machine.specs.Ports.{Told}
use Rattle.rv_machine.specs.Step.{StepOutcome, step_of}
use Rattle.rv_machine.specs.Inner.Advance.{StepsTo, WentOn, TurnedOn, BreaksOff, Turns, at}
use Rattle.rv_machine.proofs.Gone.{went_but}
use Rattle.rv_machine.proofs.Passing.{nothing, nothing_passed, nothing_follows}

-- the steps of a machine
abbrev pub steps : Held → Outside → StepOutcome
steps held outside = step_of (program_in held) (state_of held outside)

-- a machine at its own pc
pub at_own : (held : Held) (pc : ℕ) → pc ≡ held.pc → at pc held ≡ held
at_own held pc here = ap (λ p. at p held) here

-- the items of such a step
abbrev pub items_of : ℕ → Gone → List Item
items_of pc gone = Fetch pc ∷ option_to_list gone.access

goes : (pc : ℕ) (before now : Held) (gone : Gone) (told : Told) → StepsTo pc before gone now → WentOn (steps (at pc before)) (at pc before) told (items_of pc gone) (at gone.next now) told
goes pc before now gone told h = record {
  passed = nothing;
  ports = nothing_passed told;
  goes = λ outside. (state_of (at gone.next now) outside, h.step outside);
  step = λ outside same. (outside, nothing_follows outside, same, h.step outside);
  stays = record { program = h.stays.program; note = h.stays.note; outline = h.stays.outline; kept = h.stays.kept };
}

pub turned : (pc : ℕ) (before now : Held) (gone : Gone) (told : Told) (took : List Item → Type 0) → StepsTo pc before gone now → took (items_of pc gone)
    → TurnedOn (steps (at pc before)) (at pc before) told took (at gone.next now) told
turned pc before now gone told took h taken = record { items = items_of pc gone; went = goes pc before now gone told h; taken = taken }

-- its items couldn't all be taken
pub broken : (pc : ℕ) (before now : Held) (gone : Gone) (told : Told) (took : List Item → Type 0) → StepsTo pc before gone now → TookFront took (items_of pc gone)
    → BreaksOff (steps (at pc before)) (at pc before) told took now told
broken pc before now gone told took h front =
    let off = went_but (steps (at pc before)) (at pc before) (at gone.next now) told told (items_of pc gone) took (goes pc before now gone told h) front in
    record {
      passed = off.passed;
      ports = off.ports;
      step = off.step;
      stays = record { program = h.stays.program; note = h.stays.note; outline = h.stays.outline; kept = h.stays.kept };
    }

-- a turn from another place, of a machine that was put there
pub turns_at : (before seen now : Held) (told told_now : Told) (took : List Item → Type 0) (result : Result (Option Ending) MachineFault) → seen ≡ before
    → Turns (steps seen) seen told took result now told_now → Turns (steps before) before told took result now told_now
turns_at before seen now told told_now took result same h = subst (λ (b : Held). Turns (steps b) b told took result now told_now) same h

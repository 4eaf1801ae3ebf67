-- Two shapes of the same code under the same marks give the same events.
use Rattle.std.proofs.Common.{◌≡◌, ℕ, zero, suc, Bool, true, false, List, [], ◌∷◌, ◌++◌, Option, Some, None, refl, sym, ap, ◌∙◌, cond}
use Rattle.std.specs.List.{flat_map}
use Rattle.rv_code.specs.declared.ending.Ending.{Ending}
use Rattle.rv_code.specs.declared.ending.Ending.TheVariants.{Exit, Illegal, Breakpoint, LoadFault, StoreFault, FetchFault, JumpMisaligned}
use Rattle.rv_code.specs.declared.image.Range.{Range}
use Rattle.rv_code.specs.Table.{meaning_of}
use Rattle.rv_machine.specs.State.{State, register_of}
use Rattle.rv_machine.specs.Effect.{Effect, Passes, Sets, Stores, Jumps, Gives, Takes, Ends}
use Rattle.rv_machine.specs.Calls.{effect_of}
use Rattle.rv_machine.specs.Start.{start_of}
use Rattle.rv_machine.specs.Step.{Program, program_of, StepOutcome, Went, EndedWith, fetched, step_of}
use Rattle.ae_nums.specs.EventHeader.{event_header}
use Rattle.flow_graph.specs.CodeParts.{CodeParts}
use Rattle.ev_format.specs.declared.record.Record.{Record}
use Rattle.ev_format.specs.declared.record.Record.TheVariants.{Fall, Taken, Value, Landing}
use Rattle.ev_format.specs.declared.slot.Slot.{Slot}
use Rattle.ev_format.specs.Shapes.{ShapeView}
use Rattle.ev_format.specs.Spelling.{record_bytes}
use Rattle.schema_form.specs.CodeShape.{IsSlotOf, AreNeedsAt}
use Rattle.schema_form.specs.RunEvents.{EventsAreDetermined, recorded_if, values_needed, end_event, value_events, fall_events, jump_events, events_at_end, effect_events, events_of_fetched, step_events, events_behind_step, events_from}
use Rattle.schema_form.proofs.OneSchema.{same_test, same_mask}

same_slot : (parts : CodeParts) (marks : List Bool) (address : ℕ) (one other : Slot) → IsSlotOf parts marks address one → IsSlotOf parts marks address other → one ≡ other
same_slot parts marks address one other is is_too =
    let code : one.code ≡ other.code = is.code ∙ sym is_too.code in
    let fall : one.fall ≡ other.fall = same_test one.fall other.fall is.fall is_too.fall in
    let taken : one.taken ≡ other.taken = same_test one.taken other.taken is.taken is_too.taken in
    let value : one.value ≡ other.value = same_test one.value other.value is.value is_too.value in
    let landing : one.landing ≡ other.landing = same_test one.landing other.landing is.landing is_too.landing in
    λ i. record { code = code i; fall = fall i; taken = taken i; value = value i; landing = landing i }

same_needs : (code : List Range) (target : ℕ) (one other : Option ℕ) → AreNeedsAt code target one → AreNeedsAt code target other → one ≡ other
same_needs code target None None is is_too = refl
same_needs code target None (Some mask) is is_too = let clash : false ≡ true = is.there ∙ sym is_too.there in absurd (cc clash)
same_needs code target (Some mask) None is is_too = let clash : true ≡ false = is.there ∙ sym is_too.there in absurd (cc clash)
same_needs code target (Some mask) (Some other) is is_too = ap (λ (n : ℕ). Some n) (same_mask mask other is.needed is_too.needed)

same_rest : (outcome : StepOutcome) (f g : State → List Record) → ((next : State) → f next ≡ g next) → events_behind_step outcome f ≡ events_behind_step outcome g
same_rest (Went next items) f g same = same next
same_rest (EndedWith ending items) f g same = refl

module _ (one other : ShapeView) (slots : (address : ℕ) → one.slot address ≡ other.slot address) (needs : (target : ℕ) → one.needs target ≡ other.needs target) where
  module _ (at : ℕ) (registers : List ℕ) where
    same_jump : (target : ℕ) → jump_events one at registers target ≡ jump_events other at registers target
    same_jump target = λ i. jump_by (slots at i) (needs target i)
      where
        jump_by : Slot → Option ℕ → List Record
        jump_by slot mask = cond slot.landing (Landing at target (values_needed mask registers) ∷ []) (recorded_if slot.taken (Taken at))

    same_value : (register : ℕ) → value_events one at registers register ≡ value_events other at registers register
    same_value register = λ i. recorded_if (slots at i).value (Value at (register_of registers register))

    same_fall : fall_events one at registers ≡ fall_events other at registers
    same_fall = λ i. recorded_if (slots at i).fall (Fall at)

    same_at_end : (ending : Ending) → events_at_end one at registers ending ≡ events_at_end other at registers ending
    same_at_end (JumpMisaligned target) = same_jump target
    same_at_end (Exit code) = refl
    same_at_end (Illegal word) = refl
    same_at_end Breakpoint = refl
    same_at_end (LoadFault address) = refl
    same_at_end (StoreFault address) = refl
    same_at_end (FetchFault address) = refl

    same_effect : (effect : Effect) → effect_events one at registers effect ≡ effect_events other at registers effect
    same_effect Passes = same_fall
    same_effect (Sets register value access) = λ i. same_value register i ++ same_fall i
    same_effect (Stores addresses bytes access) = same_fall
    same_effect (Jumps link target) = same_jump target
    same_effect (Gives channel bytes) = λ i. same_value 10 i ++ same_fall i
    same_effect (Takes addresses) = λ i. same_value 10 i ++ same_fall i
    same_effect (Ends ending) = λ i. same_at_end ending i ++ end_event at ending ∷ []

  same_fetched : (has_note : Bool) (s : State) (found : Option ℕ) → events_of_fetched one has_note s found ≡ events_of_fetched other has_note s found
  same_fetched has_note s None = refl
  same_fetched has_note s (Some word) = same_effect s.pc _ (effect_of has_note (meaning_of word) s.pc s.registers s.memory)

  same_step : (program : Program) (s : State) → step_events one program s ≡ step_events other program s
  unfolding step_events
  same_step program s = same_fetched program.has_note s (fetched program s)

  same_run : (program : Program) (count : ℕ) (s : State) → events_from one program count s ≡ events_from other program count s
  unfolding events_from
  same_run program zero s = refl
  same_run program (suc count) s =
      let rest = same_rest (step_of program s) (λ next. events_from one program count next) (λ next. events_from other program count next) (λ next. same_run program count next) in
      λ i. same_step program s i ++ rest i

pub same_events : EventsAreDetermined
same_events parts marks one other is is_too =
    let runs = same_run one other (λ address. same_slot parts marks address (one.slot address) (other.slot address) (is.slot address) (is_too.slot address))
    (λ target. same_needs parts.code target (one.needs target) (other.needs target) (is.needs target) (is_too.needs target)) in
    let entry : one.entry ≡ other.entry = is.entry ∙ sym is_too.entry in
    let first : one.first ≡ other.first = is.first ∙ sym is_too.first in
    let count : one.count ≡ other.count = is.count ∙ sym is_too.count in
    record {
      events = runs;
      files = λ image input steps. λ i. event_header (entry i) (first i) (count i) ++ flat_map record_bytes (runs (program_of image) steps (start_of image input) i);
    }

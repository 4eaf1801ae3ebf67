-- From what an instruction does to what a step does.
use Rattle.std.proofs.Common.{◌≡◌, ℕ, Bool, true, false, cond, List, [], ◌∷◌, Option, None, Some, Result, Ok, Err, is_some, IfOk, refl, sym, ap, ◌∙◌, subst}
use Rattle.std.specs.Io.KnownBytes.{append_known}
use Rattle.std.specs.Option.{option_map, option_to_list}
use Rattle.ae_nums.specs.declared.item.Item.{Item}
use Rattle.ae_nums.specs.declared.item.Item.TheVariants.{Fetch}
use Rattle.rv_code.specs.declared.ending.Ending.TheVariants.{FetchFault}
use Rattle.rv_code.specs.declared.instr.Instr.{Instr}
use Rattle.rv_code.specs.Code.{is_code}
use Rattle.rv_code.specs.Numbers.{number_of}
use Rattle.rv_code.specs.Table.{meaning_of}
use Rattle.rv_memory.specs.Memory.{span, bytes_at}
use Rattle.rv_memory.specs.Stretches.{memory_of}
use Rattle.rv_machine.specs.declared.acted.Acted.{Acted}
use Rattle.rv_machine.specs.declared.acted.Gone.{Gone}
use Rattle.rv_machine.specs.declared.outcome.MachineFault.{MachineFault}
use Rattle.rv_machine.specs.declared.seen.Step.{Step}
use Rattle.rv_machine.specs.Step.{StepOutcome, EndedWith, after_fetch, carried_out, fetched, step_of}
use Rattle.rv_machine.specs.Held.{Held, Outside, fresh, program_in, state_of}
use Rattle.rv_machine.specs.Outcomes.{Steps, access_behind, access_of, nothing_seen, seen_in, seen_of}
use Rattle.rv_machine.specs.Ports.{Told, HasPassed, PassesOn}
use Rattle.rv_machine.specs.Inner.Advance.{Stops, Acts, Advances, GoesOn, StepsTo, at, made_at, made_by, step_with}
use Rattle.rv_machine.specs.Inner.Decoded.{decoded_at, word_in_memory}
use Rattle.rv_machine.proofs.Passing.{nothing, nothing_passed, appends_front}

-- a step at which a word was fetched
pub step_after : (held : Held) (outside : Outside) (word : ℕ) → fetched (program_in held) (state_of held outside) ≡ Some word
    → step_of (program_in held) (state_of held outside) ≡ after_fetch held.pc (made_by (meaning_of word) held outside)
unfolding step_of
step_after held outside word found = ap (carried_out (is_some held.note) (state_of held outside)) found

-- the word at an address, where a code word stands there
abbrev decoded_word : Held → ℕ → Option ℕ
decoded_word held pc = word_in_memory held.code (memory_of held.memory) pc

pub advances : (outcome step : Outside → StepOutcome) (pc : ℕ) → ((outside : Outside) → step outside ≡ after_fetch pc (outcome outside))
    → (before : Held) (told : Told) (result : Result Acted MachineFault) (now : Held) (told_now : Told)
    → Acts outcome before told result now told_now → Advances step before told (step_with pc result) now told_now
advances outcome step pc is before told (Ok (Acted.Went access)) now told_now acts =
    record {
      passed = acts.passed;
      ports = acts.ports;
      goes = λ outside. let went = acts.goes outside in (went.0, is outside ∙ ap (after_fetch pc) went.1);
      step = λ outside tells.
          let went = acts.step outside tells in
          (went.0, went.1, went.2, is outside ∙ ap (after_fetch pc) went.3);
      stays = acts.stays;
    }
advances outcome step pc is before told (Ok (Acted.Ended ending)) now told_now acts =
    record { step = λ outside. is outside ∙ ap (after_fetch pc) (acts.step outside); same = acts.same; ports = acts.ports }
advances outcome step pc is before told (Err fault) now told_now acts =
    record {
      passed = acts.passed;
      ports = acts.ports;
      step = λ outside tells.
          let went = acts.step outside tells in
          (went.0, Fetch pc ∷ went.1, is outside ∙ ap (after_fetch pc) went.2, went.3);
      stays = acts.stays;
    }

-- the word whose meaning was fetched
pub meant : (word : Option ℕ) (instr : Instr) → Some instr ≡ option_map meaning_of word → (w : ℕ) × (word ≡ Some w) × (instr ≡ meaning_of w)
meant None instr is = absurd (cc is)
meant (Some word) instr is = (word, refl, cc)

pub no_meaning : (word : Option ℕ) → None ≡ option_map meaning_of word → word ≡ None
no_meaning None is = refl
no_meaning (Some word) is = absurd (cc is)

-- the same at a machine's own pc
pub meant_at : (held : Held) (pc : ℕ) (instr : Instr) → pc ≡ held.pc → Some instr ≡ decoded_at held.code (memory_of held.memory) pc
    → (w : ℕ) × (decoded_word held held.pc ≡ Some w) × (instr ≡ meaning_of w)
meant_at held pc instr here is = meant (decoded_word held held.pc) instr (is ∙ ap (λ p. decoded_at held.code (memory_of held.memory) p) here)

pub no_word_at : (held : Held) (pc : ℕ) → pc ≡ held.pc → None ≡ decoded_at held.code (memory_of held.memory) pc → (outside : Outside) → fetched (program_in held) (state_of held outside) ≡ None
no_word_at held pc here is outside = no_meaning (decoded_word held held.pc) (is ∙ ap (λ p. decoded_at held.code (memory_of held.memory) p) here)

-- a step that called no port and didn't end
pub quick_step : (pc : ℕ) (held fetched_by now : Held) (instr : Instr) (gone : Gone) → fetched_by ≡ held → Some instr ≡ decoded_at held.code (memory_of held.memory) pc
    → GoesOn (made_at instr pc fetched_by) pc fetched_by gone now → StepsTo pc held gone now
quick_step pc held fetched_by now instr gone same found went =
    let way = meant (decoded_word held pc) instr found in
    let h : GoesOn (made_at (meaning_of way.0) pc held) pc held gone now =
    subst (λ (i : Instr). GoesOn (made_at i pc held) pc held gone now) way.2 (subst (λ (b : Held). GoesOn (made_at instr pc b) pc b gone now) same went) in
    record {
      step = λ outside. step_after (at pc held) outside way.0 way.1 ∙ ap (after_fetch pc) (h.step outside);
      stays = record { program = h.stays.program; note = h.stays.note; outline = h.stays.outline; kept = h.stays.kept };
    }

pub no_word : (held now : Held) (told told_now : Told) (pc : ℕ) → pc ≡ held.pc
    → ((outside : Outside) → fetched (program_in held) (state_of held outside) ≡ None) → now ≡ held → told_now ≡ told
    → Stops (λ outside. step_of (program_in held) (state_of held outside)) held told (FetchFault pc) [] now told_now
unfolding step_of
no_word held now told told_now pc here none same told_same =
    record {
      step = λ outside. ap (carried_out (is_some held.note) (state_of held outside)) (none outside) ∙ ap (λ p. EndedWith (FetchFault p) []) (sym here);
      same = same;
      ports = told_same;
    }

-- a word was fetched, and its instruction carried out
pub word_advances : (held fetched_by now : Held) (told told_now : Told) (pc word : ℕ) (instr : Instr)
    (acted : Result Acted MachineFault) (result : Result Step MachineFault)
    → ((outside : Outside) → fetched (program_in held) (state_of held outside) ≡ Some word) → fetched_by ≡ held → pc ≡ held.pc → instr ≡ meaning_of word
    → Acts (made_by instr fetched_by) fetched_by told acted now told_now → result ≡ step_with pc acted
    → Advances (λ outside. step_of (program_in held) (state_of held outside)) held told result now told_now
word_advances held fetched_by now told told_now pc word instr acted result found same here means acts is =
    let at_held : Acts (made_by (meaning_of word) held) held told acted now told_now =
    subst (λ i. Acts (made_by i held) held told acted now told_now) means (subst (λ (h : Held). Acts (made_by instr h) h told acted now told_now) same acts) in
    subst (λ r. Advances (λ outside. step_of (program_in held) (state_of held outside)) held told r now told_now) (sym is)
    (advances (made_by (meaning_of word) held) (λ outside. step_of (program_in held) (state_of held outside)) pc
    (λ outside. step_after held outside word (found outside) ∙ ap (λ p. after_fetch p (made_by (meaning_of word) held outside)) (sym here)) held told acted now told_now at_held)

-- what a step shows
no_fetch : (here : Bool) (word pc : ℕ) → cond here (Some word) None ≡ None → cond here (Some pc) None ≡ None
no_fetch true word pc none = absurd (cc none)
no_fetch false word pc none = refl

has_fetch : (here : Bool) (there word pc : ℕ) → cond here (Some there) None ≡ Some word → cond here (Some pc) None ≡ Some pc
has_fetch true there word pc found = refl
has_fetch false there word pc found = absurd (cc found)

behind_fetch : (pc : ℕ) (access : Option Item) → access_behind (Fetch pc ∷ option_to_list access) ≡ access
behind_fetch pc None = refl
behind_fetch pc (Some access) = refl

word_of : Held → ℕ
word_of held = number_of (bytes_at (memory_of held.memory) (span held.pc 4))

pub no_word_shows : (held : Held) (outside : Outside) → fetched (program_in held) (state_of held outside) ≡ None → nothing_seen ≡ seen_of (program_in held) (state_of held outside)
unfolding step_of word_of
no_word_shows held outside none =
    let fetch : cond (is_code held.code held.pc) (Some held.pc) None ≡ None = no_fetch (is_code held.code held.pc) (word_of held) held.pc none in
    let access : access_of (step_of (program_in held) (state_of held outside)) ≡ None = ap (λ word. access_of (carried_out (is_some held.note) (state_of held outside) word)) none in
    λ i. record { fetch = sym fetch i; access = sym access i }

shows : (held now : Held) (told told_now : Told) (word : ℕ) (outside : Outside) → fetched (program_in held) (state_of held outside) ≡ Some word
    → (acted : Result Acted MachineFault) → Acts (made_by (meaning_of word) held) held told acted now told_now
    → IfOk (step_with held.pc acted) (λ step. seen_in step ≡ seen_of (program_in held) (state_of held outside))
unfolding word_of
shows held now told told_now word outside found (Ok (Acted.Went access)) acts =
    let goes = acts.goes outside in
    let fetch : cond (is_code held.code held.pc) (Some held.pc) None ≡ Some held.pc = has_fetch (is_code held.code held.pc) (word_of held) word held.pc found in
    let is : access_of (step_of (program_in held) (state_of held outside)) ≡ access =
    ap access_of (step_after held outside word found ∙ ap (after_fetch held.pc) goes.1) ∙ behind_fetch held.pc access in
    λ i. record { fetch = sym fetch i; access = sym is i }
shows held now told told_now word outside found (Ok (Acted.Ended ending)) acts =
    let fetch : cond (is_code held.code held.pc) (Some held.pc) None ≡ Some held.pc = has_fetch (is_code held.code held.pc) (word_of held) word held.pc found in
    let is : access_of (step_of (program_in held) (state_of held outside)) ≡ None =
    ap access_of (step_after held outside word found ∙ ap (after_fetch held.pc) (acts.step outside)) in
    λ i. record { fetch = sym fetch i; access = sym is i }
shows held now told told_now word outside found (Err fault) acts = tt

pub word_shows : (held fetched_by now : Held) (told told_now : Told) (pc word : ℕ) (instr : Instr)
    (acted : Result Acted MachineFault) (result : Result Step MachineFault) (outside : Outside)
    → fetched (program_in held) (state_of held outside) ≡ Some word → fetched_by ≡ held → pc ≡ held.pc → instr ≡ meaning_of word
    → Acts (made_by instr fetched_by) fetched_by told acted now told_now → result ≡ step_with pc acted
    → IfOk result (λ step. seen_in step ≡ seen_of (program_in held) (state_of held outside))
word_shows held fetched_by now told told_now pc word instr acted result outside found same here means acts is =
    let at_held : Acts (made_by (meaning_of word) held) held told acted now told_now =
    subst (λ i. Acts (made_by i held) held told acted now told_now) means (subst (λ (h : Held). Acts (made_by instr h) h told acted now told_now) same acts) in
    subst (λ (r : Result Step MachineFault). IfOk r (λ step. seen_in step ≡ seen_of (program_in held) (state_of held outside))) (sym (is ∙ ap (λ p. step_with p acted) here))
    (shows held now told told_now word outside found acted at_held)

-- what a step answers and leaves; what the machine keeps is no part of the state
pub stepped : (before after now : Held) (told told_now : Told) (result : Result Step MachineFault) (bytes : List ℕ) → told.input ≡ Some bytes
    → Advances (λ outside. step_of (program_in before) (state_of before outside)) before told result after told_now
    → ((outside : Outside) → state_of now outside ≡ state_of after outside)
    → Steps bytes before told result now told_now
stepped before after now told told_now (Ok (Step.Went seen)) bytes tells went same =
    let way = went.step (fresh bytes) tells in (
      state_of after way.0,
      way.3,
      record {
        state = same way.0;
        input = way.2;
        out = went.ports.out ∙ ap (λ xs. append_known told.out xs) (sym way.1.out);
        err = went.ports.err ∙ ap (λ xs. append_known told.err xs) (sym way.1.err);
        events = went.ports.events ∙ ap (λ xs. append_known told.events xs) (sym way.1.events);
      },
    )
stepped before after now told told_now (Ok (Step.Ended ending seen)) bytes tells stops same = (
  stops.step (fresh bytes),
  record {
    state = same (fresh bytes) ∙ ap (λ (h : Held). state_of h (fresh bytes)) stops.same;
    input = ap (λ (t : Told). t.input) stops.ports ∙ tells;
    out = ap (λ (t : Told). t.out) stops.ports ∙ (nothing_passed told).out;
    err = ap (λ (t : Told). t.err) stops.ports ∙ (nothing_passed told).err;
    events = ap (λ (t : Told). t.events) stops.ports ∙ (nothing_passed told).events;
  },
)
stepped before after now told told_now (Err fault) bytes tells broke same =
    let way = broke.step (fresh bytes) tells in (
      way.0,
      way.1,
      way.2,
      record {
        taken = (broke.passed.taken, broke.ports.input);
        out = appends_front told.out told_now.out broke.passed.out way.0.out broke.ports.out way.3.out;
        err = appends_front told.err told_now.err broke.passed.err way.0.err broke.ports.err way.3.err;
        events = appends_front told.events told_now.events broke.passed.events way.0.events broke.ports.events way.3.events;
      },
    )

-- whatever a step answers, some bytes passed
pub advances_pass : (outcome : Outside → StepOutcome) (before : Held) (told : Told) (result : Result Step MachineFault) (now : Held) (told_now : Told)
    → Advances outcome before told result now told_now → PassesOn told told_now
advances_pass outcome before told (Ok (Step.Went seen)) now told_now went = (went.passed, went.ports)
advances_pass outcome before told (Ok (Step.Ended ending seen)) now told_now stops = (nothing, subst (λ (t : Told). HasPassed told t nothing) (sym stops.ports) (nothing_passed told))
advances_pass outcome before told (Err fault) now told_now broke = (broke.passed, broke.ports)

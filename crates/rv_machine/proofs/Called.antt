-- From what the calls did to what they are to do.
use Rattle.std.proofs.Common.{◌≡◌, ◌≢◌, ℕ, ◌+◌, ◌<◌, ◌≤◌, Bool, true, false, cond, eqb, List, [], ◌++◌, length, take, drop, Option, None, Some, Result, Ok, Err, IfOk, OnErr, refl, sym, ap, ◌∙◌, subst, inl, inr, arith, append_assoc}
use Rattle.std.specs.Prelude.{is_none, is_some, nat_lt}
use Rattle.std.proofs.lemmas.Bool.{cases_Bool, ne_eqb}
use Rattle.std.proofs.lemmas.Bool.Decides.{nat_tests}
use Rattle.std.proofs.lemmas.List.{append-nil, take_all, take_at, drop_all, drop_at, take-append-drop}
use Rattle.ae_ports.specs.declared.failed.Failed.{Failed}
use Rattle.ae_ports.specs.Content.{Consumes, Appends, AppendsFront, IsAtEnd}
use Rattle.ae_ports.proofs.LawsOfContent.{Consumes-none}
use Rattle.rv_code.specs.declared.ending.Ending.{Ending}
use Rattle.rv_code.specs.declared.ending.Ending.TheVariants.{Exit}
use Rattle.rv_code.specs.declared.instr.Instr.TheVariants.{Ecall}
use Rattle.rv_code.specs.Numbers.{wrap}
use Rattle.rv_memory.specs.Stretches.{Mapping, memory_of}
use Rattle.rv_memory.specs.Outline.{outline}
use Rattle.rv_memory.specs.Memory.{Cell, span, bytes_at, first_hole, first_shut, written}
use Rattle.rv_memory.proofs.LawsOfCells.{length-bytes_at, length-span}
use Rattle.rv_machine.specs.declared.acted.Acted.{Acted}
use Rattle.rv_machine.specs.declared.outcome.MachineFault.{MachineFault}
use Rattle.rv_machine.specs.State.{State, register_of, with_register}
use Rattle.rv_machine.specs.Effect.{Effect, Sets, Gives, Takes, Ends, Channel, Out, Err as ErrChannel, Events}
use Rattle.rv_machine.specs.Calls.{write_out, write_events, no_call, bad_address, bad_descriptor, effect_of}
use Rattle.rv_machine.specs.Step.{Went, settled}
use Rattle.rv_machine.specs.Held.{Held, Outside, state_of}
use Rattle.rv_machine.specs.Ports.{Told, Passed, HasPassed}
use Rattle.rv_machine.specs.Laws.{IsFrontOf}
use Rattle.rv_machine.specs.Inner.Advance.{made_of, buffer_in, read_in, write_in, WentOn, Stops, Breaks, Acts, Follows, GivenBefore, with_answer, may_give_events, Gave, Receives}
use Rattle.rv_machine.proofs.Passing.{nothing, appends_nothing, nothing_passed, nothing_follows}

-- an answer without the ports
pub answered : (held now : Held) (told : Told) (effect : Effect) (code : ℕ) → effect ≡ Sets 10 code None → now ≡ with_answer held code
    → Acts (made_of effect held) held told (Ok (Acted.Went None)) now told
answered held now told effect code is_effect is_now =
    subst (λ e. Acts (made_of e held) held told (Ok (Acted.Went None)) now told) (sym is_effect)
    (subst (λ (n : Held). Acts (made_of (Sets 10 code None) held) held told (Ok (Acted.Went None)) n told) (sym is_now) went)
  where
    went : WentOn (made_of (Sets 10 code None) held) held told [] (with_answer held code) told
    went = record {
      passed = nothing;
      ports = nothing_passed told;
      goes = λ outside. (state_of (with_answer held code) outside, refl);
      step = λ outside known. (outside, nothing_follows outside, known, refl);
      stays = record { program = refl; note = refl; outline = refl; kept = refl };
    }

-- the end of the run
pub ended : (held : Held) (told : Told) (effect : Effect) (ending : Ending) → effect ≡ Ends ending → Stops (made_of effect held) held told ending [] held told
ended held told effect ending is_effect = record { step = λ outside. ap (λ e. settled (state_of held outside) e) is_effect; same = refl; ports = refl }

-- what a channel's sink tells, and what of it was given
abbrev pub told_of : Channel → Told → Option (List ℕ)
told_of Out told = told.out
told_of ErrChannel told = told.err
told_of Events told = told.events

abbrev pub told_with : Channel → Told → Option (List ℕ) → Told
told_with Out told now = record told { out = now }
told_with ErrChannel told now = record told { err = now }
told_with Events told now = record told { events = now }

abbrev passed_to : Channel → List ℕ → Passed
passed_to Out bytes = record { taken = []; out = bytes; err = []; events = [] }
passed_to ErrChannel bytes = record { taken = []; out = []; err = bytes; events = [] }
passed_to Events bytes = record { taken = []; out = []; err = []; events = bytes }

abbrev given_to : Channel → List ℕ → Outside → Outside
given_to Out bytes outside = record outside { out = outside.out ++ bytes }
given_to ErrChannel bytes outside = record outside { err = outside.err ++ bytes }
given_to Events bytes outside = record outside { events = outside.events ++ bytes }

ports_of : (channel : Channel) (told : Told) (now : Option (List ℕ)) (bytes : List ℕ) → Appends (told_of channel told) now bytes → HasPassed told (told_with channel told now) (passed_to channel bytes)
ports_of Out told now bytes gives =
    record { input = Consumes-none told.input; out = gives; err = appends_nothing told.err; events = appends_nothing told.events }
ports_of ErrChannel told now bytes gives =
    record { input = Consumes-none told.input; out = appends_nothing told.out; err = gives; events = appends_nothing told.events }
ports_of Events told now bytes gives =
    record { input = Consumes-none told.input; out = appends_nothing told.out; err = appends_nothing told.err; events = gives }

follows_to : (channel : Channel) (bytes : List ℕ) (outside : Outside) → Follows outside (given_to channel bytes outside) (passed_to channel bytes)
follows_to Out bytes outside = record { out = refl; err = sym (append-nil outside.err); events = sym (append-nil outside.events) }
follows_to ErrChannel bytes outside = record { out = sym (append-nil outside.out); err = refl; events = sym (append-nil outside.events) }
follows_to Events bytes outside = record { out = sym (append-nil outside.out); err = sym (append-nil outside.err); events = refl }

input_with : (channel : Channel) (told : Told) (now : Option (List ℕ)) (bytes : List ℕ) (outside : Outside) → told.input ≡ Some outside.input
    → (told_with channel told now).input ≡ Some (given_to channel bytes outside).input
input_with Out told now bytes outside known = known
input_with ErrChannel told now bytes outside known = known
input_with Events told now bytes outside known = known

settled_gives : (channel : Channel) (held : Held) (bytes : List ℕ) (outside : Outside)
    → settled (state_of held outside) (Gives channel bytes) ≡ Went (state_of (with_answer held (length bytes)) (given_to channel bytes outside)) []
settled_gives Out held bytes outside = refl
settled_gives ErrChannel held bytes outside = refl
settled_gives Events held bytes outside = refl

-- some of the bytes had been given before a fault
given_front : (whole part : List ℕ) (count : ℕ) → part ≡ take count whole → (had : List ℕ) → IsFrontOf (had ++ part) (had ++ whole)
given_front whole part count is had =
    (drop count whole, ap (λ (xs : List ℕ). had ++ xs) (sym (take-append-drop count whole) ∙ ap (λ (xs : List ℕ). xs ++ drop count whole) (sym is)) ∙ sym (append_assoc had part (drop count whole)))

given_none : (had : List ℕ) → IsFrontOf (had ++ []) had
given_none had = ([], sym (append-nil (had ++ []) ∙ append-nil had))

given_before : (channel : Channel) (held : Held) (bytes : List ℕ) (count : ℕ) (outside : Outside)
    → GivenBefore outside (passed_to channel (take count bytes)) (state_of (with_answer held (length bytes)) (given_to channel bytes outside))
given_before Out held bytes count outside =
    record { out = given_front bytes (take count bytes) count refl outside.out; err = given_none outside.err; events = given_none outside.events }
given_before ErrChannel held bytes count outside =
    record { out = given_none outside.out; err = given_front bytes (take count bytes) count refl outside.err; events = given_none outside.events }
given_before Events held bytes count outside =
    record { out = given_none outside.out; err = given_none outside.err; events = given_front bytes (take count bytes) count refl outside.events }

told_same : (channel : Channel) (told : Told) (now : Option (List ℕ)) → now ≡ told_of channel told → told_with channel told now ≡ told
told_same Out told now same = ap (λ (n : Option (List ℕ)). told_with Out told n) same
told_same ErrChannel told now same = ap (λ (n : Option (List ℕ)). told_with ErrChannel told n) same
told_same Events told now same = ap (λ (n : Option (List ℕ)). told_with Events told n) same

-- the bytes of the buffer
abbrev bytes_in : Held → List ℕ
bytes_in held = bytes_at (memory_of held.memory) (buffer_in held)

gave_all : (channel : Channel) (held : Held) (told : Told) (now : Option (List ℕ)) → Appends (told_of channel told) now (bytes_in held)
    → WentOn (made_of (Gives channel (bytes_in held)) held) held told [] (with_answer held (length (bytes_in held))) (told_with channel told now)
gave_all channel held told now gives = record {
  passed = passed_to channel (bytes_in held);
  ports = ports_of channel told now (bytes_in held) gives;
  goes = λ outside. (state_of (with_answer held (length (bytes_in held))) (given_to channel (bytes_in held) outside), settled_gives channel held (bytes_in held) outside);
  step = λ outside known. (
    given_to channel (bytes_in held) outside,
    follows_to channel (bytes_in held) outside,
    input_with channel told now (bytes_in held) outside known,
    settled_gives channel held (bytes_in held) outside,
  );
  stays = record { program = refl; note = refl; outline = refl; kept = refl };
}

gave_front : (channel : Channel) (held : Held) (told : Told) (now : Option (List ℕ)) → AppendsFront (told_of channel told) now (bytes_in held)
    → Breaks (made_of (Gives channel (bytes_in held)) held) held told held (told_with channel told now)
gave_front channel held told now front =
    let part : List ℕ = take front.0 (bytes_in held) in
    record {
      passed = passed_to channel part;
      ports = ports_of channel told now part front.2;
      step = λ outside known. (
        state_of (with_answer held (length (bytes_in held))) (given_to channel (bytes_in held) outside),
        [],
        settled_gives channel held (bytes_in held) outside,
        given_before channel held (bytes_in held) front.0 outside,
      );
      stays = record { program = refl; note = refl; outline = refl; kept = refl };
    }

-- the bytes of the buffer went to a sink, or where that isn't allowed none did
pub gave : (channel : Channel) (held now : Held) (told : Told) (effect : Effect) (allowed : Bool) (refusal : ℕ) (given : Result Unit Failed) (fault : MachineFault)
    (result : Result Acted MachineFault) (told_now : Option (List ℕ))
    → effect ≡ cond allowed (Gives channel (bytes_in held)) (Sets 10 refusal None)
    → Gave allowed refusal held (told_of channel told) given now told_now
    → IfOk given (λ _. result ≡ Ok (Acted.Went None)) → OnErr given (result ≡ Err fault)
    → Acts (made_of effect held) held told result now (told_with channel told told_now)
gave channel held now told effect false refusal (Err failed) fault result told_now is_effect did ok failed_is = absurd did
gave channel held now told effect false refusal (Ok done) fault result told_now is_effect did ok failed_is =
    subst (λ r. Acts (made_of effect held) held told r now (told_with channel told told_now)) (sym ok)
    (subst (λ (t : Told). Acts (made_of effect held) held told (Ok (Acted.Went None)) now t) (sym (told_same channel told told_now did.1))
    (answered held now told effect refusal is_effect did.0))
gave channel held now told effect true refusal (Ok done) fault result told_now is_effect did ok failed_is =
    let count : length (bytes_in held) ≡ register_of held.registers 12 = length-bytes_at (memory_of held.memory) (register_of held.registers 11) (register_of held.registers 12) in
    let is_now : with_answer held (length (bytes_in held)) ≡ now = ap (λ n. with_answer held n) count ∙ sym did.0 in
    subst (λ r. Acts (made_of effect held) held told r now (told_with channel told told_now)) (sym ok)
    (subst (λ e. Acts (made_of e held) held told (Ok (Acted.Went None)) now (told_with channel told told_now)) (sym is_effect)
    (subst (λ (n : Held). WentOn (made_of (Gives channel (bytes_in held)) held) held told [] n (told_with channel told told_now)) is_now
    (gave_all channel held told told_now did.1)))
gave channel held now told effect true refusal (Err failed) fault result told_now is_effect did ok failed_is =
    subst (λ r. Acts (made_of effect held) held told r now (told_with channel told told_now)) (sym failed_is)
    (subst (λ e. Acts (made_of e held) held told (Err fault) now (told_with channel told told_now)) (sym is_effect)
    (subst (λ (n : Held). Breaks (made_of (Gives channel (bytes_in held)) held) held told n (told_with channel told told_now)) (sym did.0)
    (gave_front channel held told told_now did.1)))

-- the call write by its tests of the descriptor
abbrev write_by : (one two three : Bool) → Held → Effect
write_by one two three held =
    cond one (write_out Out (buffer_in held) (memory_of held.memory))
    (cond two (write_out ErrChannel (buffer_in held) (memory_of held.memory))
    (cond three (write_events (is_some held.note) (register_of held.registers 12) (buffer_in held) (memory_of held.memory)) bad_descriptor))

write_is : (held : Held) (one two three : Bool) → eqb (register_of held.registers 10) 1 ≡ one → eqb (register_of held.registers 10) 2 ≡ two
    → eqb (register_of held.registers 10) 3 ≡ three → write_in held ≡ write_by one two three held
write_is held one two three is_one is_two is_three =
    ap (λ t. write_by t (eqb (register_of held.registers 10) 2) (eqb (register_of held.registers 10) 3) held) is_one
    ∙ (ap (λ t. write_by one t (eqb (register_of held.registers 10) 3) held) is_two ∙ ap (λ t. write_by one two t held) is_three)

module _ (held : Held) (descriptor : ℕ) (is_descriptor : descriptor ≡ register_of held.registers 10) where
  tests : (number n : ℕ) → descriptor ≡ number → eqb (register_of held.registers 10) n ≡ eqb number n
  tests number n is = ap (λ m. eqb m n) (sym is_descriptor ∙ is)

  fails : (n : ℕ) → descriptor ≢ n → eqb (register_of held.registers 10) n ≡ false
  fails n ne = ap (λ m. eqb m n) (sym is_descriptor) ∙ ne_eqb descriptor n ne

  pub to_out : (allowed : Bool) → descriptor ≡ 1 → allowed ≡ is_none (first_hole (memory_of held.memory) (buffer_in held))
      → write_in held ≡ cond allowed (Gives Out (bytes_in held)) bad_address
  to_out allowed is is_allowed =
      write_is held true false false (tests 1 1 is) (tests 1 2 is) (tests 1 3 is) ∙ ap (λ t. cond t (Gives Out (bytes_in held)) bad_address) (sym is_allowed)

  pub to_err : (allowed : Bool) → descriptor ≡ 2 → allowed ≡ is_none (first_hole (memory_of held.memory) (buffer_in held))
      → write_in held ≡ cond allowed (Gives ErrChannel (bytes_in held)) bad_address
  to_err allowed is is_allowed =
      write_is held false true false (tests 2 1 is) (tests 2 2 is) (tests 2 3 is) ∙ ap (λ t. cond t (Gives ErrChannel (bytes_in held)) bad_address) (sym is_allowed)

  pub to_events : (allowed : Bool) → descriptor ≡ 3 → allowed ≡ may_give_events held
      → write_in held ≡ cond allowed (Gives Events (bytes_in held)) bad_descriptor
  to_events allowed is is_allowed =
      write_is held false false true (tests 3 1 is) (tests 3 2 is) (tests 3 3 is) ∙ ap (λ t. cond t (Gives Events (bytes_in held)) bad_descriptor) (sym is_allowed)

  pub to_none : descriptor ≢ 1 → descriptor ≢ 2 → descriptor ≢ 3 → write_in held ≡ bad_descriptor
  to_none no_one no_two no_three = write_is held false false false (fails 1 no_one) (fails 2 no_two) (fails 3 no_three)

  -- the call read by its tests
  pub read_elsewhere : descriptor ≢ 0 → read_in held ≡ bad_descriptor
  read_elsewhere no_zero =
      ap (λ t. cond t (cond (is_none (first_shut (memory_of held.memory) (buffer_in held))) (Takes (buffer_in held)) bad_address) bad_descriptor) (fails 0 no_zero)

  pub read_here : (free : Bool) → descriptor ≡ 0 → is_none (first_shut (memory_of held.memory) (buffer_in held)) ≡ free
      → read_in held ≡ cond free (Takes (buffer_in held)) bad_address
  read_here free is is_free =
      ap (λ t. cond t (cond (is_none (first_shut (memory_of held.memory) (buffer_in held))) (Takes (buffer_in held)) bad_address) bad_descriptor) (tests 0 0 is)
      ∙ ap (λ t. cond t (Takes (buffer_in held)) bad_address) is_free

-- whether the buffer can be written, of a machine that is seen by its parts
pub free_is : (seen held : Held) (address count : ℕ) (test free : Bool) → seen ≡ held → address ≡ register_of held.registers 11 → count ≡ register_of held.registers 12
    → test ≡ is_none (first_shut (memory_of seen.memory) (span address count)) → test ≡ free
    → is_none (first_shut (memory_of held.memory) (buffer_in held)) ≡ free
free_is seen held address count test free same is_address is_count tested is_free =
    ap (λ n. is_none (first_shut (memory_of held.memory) (span (register_of held.registers 11) n))) (sym is_count)
    ∙ (ap (λ a. is_none (first_shut (memory_of held.memory) (span a count))) (sym is_address)
    ∙ (ap (λ (h : Held). is_none (first_shut (memory_of h.memory) (span address count))) (sym same) ∙ (sym tested ∙ is_free)))

-- the input of which these bytes were taken, into a buffer of so many
record AreTaken (input bytes : List ℕ) (told_now : Option (List ℕ)) (count : ℕ) : Type 0 where
  rest : List ℕ
  told : told_now ≡ Some rest
  taken : take count input ≡ bytes
  left : drop count input ≡ rest

all_taken : (input bytes rest : List ℕ) (count : ℕ) → input ≡ bytes ++ rest → length bytes ≤ count → (length bytes < count → IsAtEnd (Some rest))
    → AreTaken input bytes (Some rest) count
all_taken input bytes rest count is within end = elim (cases_Bool (nat_lt (length bytes) count)) [
  | inl is_less ↦ let less : length bytes < count = grind (arith, nat_tests) in
      let none : rest ≡ [] = at_end rest (end less) in
      let whole : input ≡ bytes = is ∙ (ap (λ (xs : List ℕ). bytes ++ xs) none ∙ append-nil bytes) in
      let long : length input ≤ count = omega (arith, ap length whole) in
      record { rest = rest; told = refl; taken = take_all count input long ∙ whole; left = drop_all count input long ∙ sym none }
  | inr is_not ↦ let same : length bytes ≡ count = grind (arith, nat_tests) in
      record {
        rest = rest;
        told = refl;
        taken = ap (λ (xs : List ℕ). take count xs) is ∙ take_at bytes rest count same;
        left = ap (λ (xs : List ℕ). drop count xs) is ∙ drop_at bytes rest count same;
      }
]
  where
    at_end : (rest : List ℕ) → IsAtEnd (Some rest) → rest ≡ []
    at_end rest (inl untold) = cc untold
    at_end rest (inr none) = cc none

are_taken : (input bytes : List ℕ) (told told_now : Option (List ℕ)) (count : ℕ) → told ≡ Some input → Consumes told told_now bytes → length bytes ≤ count
    → (length bytes < count → IsAtEnd told_now) → AreTaken input bytes told_now count
are_taken input bytes told None count known taken within end = absurd (cc (known, taken))
are_taken input bytes told (Some rest) count known taken within end = all_taken input bytes rest count (cc (known, taken)) within end

-- the state after bytes of the input were taken
abbrev taking : Held → Outside → (answer : ℕ) → List Cell → List ℕ → State
taking held outside answer memory rest = record {
  pc = wrap (held.pc + 4);
  registers = with_register held.registers 10 answer;
  memory = memory;
  input = rest;
  out = outside.out;
  err = outside.err;
  events = outside.events;
}

settled_takes : (held : Held) (outside : Outside) (addresses bytes rest : List ℕ) (got : ℕ) (memory : List Cell) (count : ℕ) → length addresses ≡ count
    → take count outside.input ≡ bytes → drop count outside.input ≡ rest → length bytes ≡ got → memory ≡ written (memory_of held.memory) addresses bytes
    → settled (state_of held outside) (Takes addresses) ≡ Went (taking held outside got memory rest) []
settled_takes held outside addresses bytes rest got memory count counted taken left number put =
    let before : List Cell = memory_of held.memory in
    ap (λ n. Went (taking held outside (length (take n outside.input)) (written before addresses (take n outside.input)) (drop n outside.input)) []) counted
    ∙ (ap (λ (xs : List ℕ). Went (taking held outside (length xs) (written before addresses xs) (drop count outside.input)) []) taken
    ∙ (ap (λ (xs : List ℕ). Went (taking held outside (length bytes) (written before addresses bytes) xs) []) left
    ∙ (ap (λ n. Went (taking held outside n (written before addresses bytes) rest) []) number
    ∙ ap (λ (cells : List Cell). Went (taking held outside got cells rest) []) (sym put))))

follows_none : (outside : Outside) (taken rest : List ℕ) → Follows outside (record outside { input = rest }) (record { taken = taken; out = []; err = []; events = [] })
follows_none outside taken rest = record { out = sym (append-nil outside.out); err = sym (append-nil outside.err); events = sym (append-nil outside.events) }

ports_taken : (told : Told) (told_now : Option (List ℕ)) (bytes : List ℕ) → Consumes told.input told_now bytes
    → HasPassed told (record told { input = told_now }) (record { taken = bytes; out = []; err = []; events = [] })
ports_taken told told_now bytes taken =
    record { input = taken; out = appends_nothing told.out; err = appends_nothing told.err; events = appends_nothing told.events }

-- the machine with bytes of the input in its buffer
abbrev pub with_taken : Held → Mapping → ℕ → Held
with_taken held mapping got = record held { pc = wrap (held.pc + 4); registers = with_register held.registers 10 got; memory = mapping }

went_taken : (held : Held) (told : Told) (told_now : Option (List ℕ)) (mapping : Mapping) (got : ℕ)
    → Receives told.input told_now (memory_of held.memory) (memory_of mapping) (register_of held.registers 11) (register_of held.registers 12) got
    → outline mapping.stretches ≡ outline held.memory.stretches
    → WentOn (made_of (Takes (buffer_in held)) held) held told [] (with_taken held mapping got) (record told { input = told_now })
went_taken held told told_now mapping got received lined = record {
  passed = record { taken = received.bytes; out = []; err = []; events = [] };
  ports = ports_taken told told_now received.bytes received.taken;
  goes = λ outside. (
    taking held outside (length (take (length (buffer_in held)) outside.input)) (written (memory_of held.memory) (buffer_in held) (take (length (buffer_in held)) outside.input))
        (drop (length (buffer_in held)) outside.input),
    refl,
  );
  step = λ outside known. comes outside (are outside known);
  stays = record { program = refl; note = refl; outline = lined; kept = refl };
}
  where
    count : ℕ
    count = register_of held.registers 12

    are : (outside : Outside) → told.input ≡ Some outside.input → AreTaken outside.input received.bytes told_now (register_of held.registers 12)
    are outside known =
        are_taken outside.input received.bytes told.input told_now (register_of held.registers 12) known received.taken (omega (arith, received.number, received.within))
        (λ less. received.end (omega (arith, received.number)))

    comes : (outside : Outside) → AreTaken outside.input received.bytes told_now (register_of held.registers 12)
        → (next : Outside) × Follows outside next (record { taken = received.bytes; out = []; err = []; events = [] }) × (told_now ≡ Some next.input)
        × (made_of (Takes (buffer_in held)) held outside ≡ Went (state_of (with_taken held mapping got) next) [])
    comes outside taken = (
      record outside { input = taken.rest },
      follows_none outside received.bytes taken.rest,
      taken.told,
      settled_takes held outside (buffer_in held) received.bytes taken.rest got (memory_of mapping) (register_of held.registers 12)
          (length-span (register_of held.registers 11) (register_of held.registers 12)) taken.taken taken.left received.number received.put,
    )

breaks_taken : (held : Held) (told : Told) (told_now : Option (List ℕ)) (mapping : Mapping) (bytes : List ℕ) → Consumes told.input told_now bytes
    → outline mapping.stretches ≡ outline held.memory.stretches
    → Breaks (made_of (Takes (buffer_in held)) held) held told (record held { memory = mapping }) (record told { input = told_now })
breaks_taken held told told_now mapping bytes taken lined = record {
  passed = record { taken = bytes; out = []; err = []; events = [] };
  ports = ports_taken told told_now bytes taken;
  step = λ outside known. (
    taking held outside (length (take (length (buffer_in held)) outside.input)) (written (memory_of held.memory) (buffer_in held) (take (length (buffer_in held)) outside.input))
        (drop (length (buffer_in held)) outside.input),
    [],
    refl,
    record { out = given_none outside.out; err = given_none outside.err; events = given_none outside.events },
  );
  stays = record { program = refl; note = refl; outline = lined; kept = refl };
}

-- bytes of the input came into the buffer, of a machine that is seen by its parts
pub took : (seen held now : Held) (told : Told) (told_now : Option (List ℕ)) (mapping : Mapping) (address count got : ℕ) → seen ≡ held
    → read_in held ≡ Takes (buffer_in held) → address ≡ register_of held.registers 11 → count ≡ register_of held.registers 12
    → Receives told.input told_now (memory_of seen.memory) (memory_of mapping) address count got
    → outline mapping.stretches ≡ outline seen.memory.stretches → now ≡ with_taken seen mapping got
    → WentOn (made_of (read_in held) held) held told [] now (record told { input = told_now })
took seen held now told told_now mapping address count got same is_effect is_address is_count received lined is_now =
    let of_held : Receives told.input told_now (memory_of held.memory) (memory_of mapping) (register_of held.registers 11) (register_of held.registers 12) got =
    subst (λ (h : Held). Receives told.input told_now (memory_of h.memory) (memory_of mapping) (register_of held.registers 11) (register_of held.registers 12) got) same
    (subst (λ a. Receives told.input told_now (memory_of seen.memory) (memory_of mapping) a (register_of held.registers 12) got) is_address
    (subst (λ n. Receives told.input told_now (memory_of seen.memory) (memory_of mapping) address n got) is_count received)) in
    let reached : with_taken held mapping got ≡ now = ap (λ (h : Held). with_taken h mapping got) (sym same) ∙ sym is_now in
    subst (λ e. WentOn (made_of e held) held told [] now (record told { input = told_now })) (sym is_effect)
    (subst (λ (n : Held). WentOn (made_of (Takes (buffer_in held)) held) held told [] n (record told { input = told_now })) reached
    (went_taken held told told_now mapping got of_held (lined ∙ ap (λ (h : Held). outline h.memory.stretches) same)))

-- the input failed
pub took_none : (seen held : Held) (told : Told) (told_now : Option (List ℕ)) (mapping : Mapping) (bytes : List ℕ) → seen ≡ held
    → read_in held ≡ Takes (buffer_in held) → Consumes told.input told_now bytes
    → outline mapping.stretches ≡ outline seen.memory.stretches
    → Breaks (made_of (read_in held) held) held told (record seen { memory = mapping }) (record told { input = told_now })
took_none seen held told told_now mapping bytes same is_effect taken lined =
    subst (λ (h : Held). Breaks (made_of (read_in held) held) held told (record h { memory = mapping }) (record told { input = told_now })) (sym same)
    (subst (λ e. Breaks (made_of e held) held told (record held { memory = mapping }) (record told { input = told_now })) (sym is_effect)
    (breaks_taken held told told_now mapping bytes taken (lined ∙ ap (λ (h : Held). outline h.memory.stretches) same)))

-- the table of calls by its tests
abbrev call_by : (reads writes exits : Bool) → Held → Effect
call_by reads writes exits held =
    cond reads (read_in held) (cond writes (write_in held) (cond exits (Ends (Exit (register_of held.registers 10))) no_call))

-- the effect of a call
abbrev pub effect_at : Held → Effect
effect_at held = effect_of (is_some held.note) Ecall held.pc held.registers (memory_of held.memory)

module _ (held : Held) (number : ℕ) (is_number : number ≡ register_of held.registers 17) where
  call_is : (reads writes exits : Bool) → eqb (register_of held.registers 17) 63 ≡ reads → eqb (register_of held.registers 17) 64 ≡ writes
      → eqb (register_of held.registers 17) 93 ≡ exits → effect_at held ≡ call_by reads writes exits held
  unfolding effect_of
  call_is reads writes exits r w e =
      ap (λ t. call_by t (eqb (register_of held.registers 17) 64) (eqb (register_of held.registers 17) 93) held) r
      ∙ (ap (λ t. call_by reads t (eqb (register_of held.registers 17) 93) held) w ∙ ap (λ t. call_by reads writes t held) e)

  call_tests : (value n : ℕ) → number ≡ value → eqb (register_of held.registers 17) n ≡ eqb value n
  call_tests value n is = ap (λ m. eqb m n) (sym is_number ∙ is)

  call_fails : (n : ℕ) → number ≢ n → eqb (register_of held.registers 17) n ≡ false
  call_fails n ne = ap (λ m. eqb m n) (sym is_number) ∙ ne_eqb number n ne

  pub is_read : number ≡ 63 → read_in held ≡ effect_at held
  is_read is = sym (call_is true false false (call_tests 63 63 is) (call_tests 63 64 is) (call_tests 63 93 is))

  pub is_write : number ≡ 64 → write_in held ≡ effect_at held
  is_write is = sym (call_is false true false (call_tests 64 63 is) (call_tests 64 64 is) (call_tests 64 93 is))

  pub is_exit : (code : ℕ) → number ≡ 93 → code ≡ register_of held.registers 10 → effect_at held ≡ Ends (Exit code)
  is_exit code is is_code =
      call_is false false true (call_tests 93 63 is) (call_tests 93 64 is) (call_tests 93 93 is) ∙ ap (λ v. Ends (Exit v)) (sym is_code)

  pub is_none_such : number ≢ 63 → number ≢ 64 → number ≢ 93 → effect_at held ≡ no_call
  is_none_such no_read no_write no_exit = call_is false false false (call_fails 63 no_read) (call_fails 64 no_write) (call_fails 93 no_exit)

-- what was done by an effect was done by the call that has it
pub acts_as : (held now : Held) (told told_now : Told) (effect other : Effect) (result : Result Acted MachineFault) → effect ≡ other
    → Acts (made_of effect held) held told result now told_now → Acts (made_of other held) held told result now told_now
acts_as held now told told_now effect other result same acts = subst (λ e. Acts (made_of e held) held told result now told_now) same acts

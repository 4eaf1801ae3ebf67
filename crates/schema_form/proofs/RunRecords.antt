-- The events of a run are records of its program's shape, and an event file is read back as the events.
use Rattle.std.proofs.Common.{◌≡◌, ℕ, zero, suc, ◌+◌, ◌%◌, ◌<◌, Bool, true, false, cond, List, [], ◌∷◌, ◌++◌, length, map, Option, Some, None, refl, sym, ap, subst, ◌∙◌, arith}
use Rattle.std.specs.Prelude.{◌==◌, IsSome}
use Rattle.std.specs.List.{AllByRecursion}
use Rattle.std.proofs.lemmas.Bool.{or_right}
use Rattle.std.proofs.lemmas.List.{append-nil}
use Rattle.rv_code.specs.declared.ending.Ending.{Ending}
use Rattle.rv_code.specs.declared.ending.Ending.TheVariants.{Exit, Illegal, Breakpoint, LoadFault, StoreFault, FetchFault, JumpMisaligned}
use Rattle.rv_code.specs.declared.image.Image.{Image}
use Rattle.rv_code.specs.Code.{is_code}
use Rattle.rv_code.specs.Endings.{detail_of}
use Rattle.rv_code.specs.Laws.{IsItsWord}
use Rattle.rv_code.specs.Numbers.{IsWord, number_of}
use Rattle.rv_code.specs.Table.{meaning_of}
use Rattle.rv_code.proofs.LawsOfPlaces.{is_code-aligned}
use Rattle.rv_memory.specs.Memory.{bytes_at, span}
use Rattle.rv_machine.specs.State.{State, register_of}
use Rattle.rv_machine.specs.Effect.{Effect, Passes, Sets, Stores, Jumps, Gives, Takes, Ends}
use Rattle.rv_machine.specs.Calls.{effect_of}
use Rattle.rv_machine.specs.Laws.{IsState, KeepsRanges, BeginsInRanges}
use Rattle.rv_machine.specs.Run.{Run, first_step, run}
use Rattle.rv_machine.specs.Start.{start_of}
use Rattle.rv_machine.specs.Step.{Program, program_of, StepOutcome, Went, EndedWith, AfterStep, settled, after_fetch, carried_out, fetched, step_of}
use Rattle.ev_format.specs.declared.kind.RecordKind.TheVariants as kinds
use Rattle.ev_format.specs.declared.record.Record.{Record}
use Rattle.ev_format.specs.declared.record.Record.TheVariants.{Fall, Taken, Value, Landing, End}
use Rattle.ev_format.specs.Laws.{EndsOnce, IsReadBack}
use Rattle.ev_format.specs.Shapes.{ShapeView, HasRecord, registers_needed, value_count}
use Rattle.ev_format.specs.Spelling.{kind_in}
use Rattle.schema_form.specs.EventFiles.{EventFilesAreReadBack}
use Rattle.schema_form.specs.RunEvents.{recorded_if, values_needed, end_event, value_events, fall_events, jump_events, events_at_end, effect_events, registers_after, word_events, events_of_fetched, step_events, events_behind_step, events_from}
use Rattle.schema_form.proofs.EffectWords.{ShowsWords, register_word, fetched_word, effect_shows}
use Rattle.schema_form.proofs.Rows.{all_append}

-- the values of a landing
length-mapped : (f : ℕ → ℕ) (xs : List ℕ) → length (map f xs) ≡ length xs
length-mapped f [] = refl
length-mapped f (x ∷ xs) = ap suc (length-mapped f xs)

mapped_words : (registers numbers : List ℕ) → AllByRecursion IsWord registers → AllByRecursion IsWord (map (register_of registers) numbers)
mapped_words registers [] all = tt
mapped_words registers (number ∷ numbers) all = (register_word registers number all, mapped_words registers numbers all)

values_words : (needs : Option ℕ) (registers : List ℕ) → AllByRecursion IsWord registers → AllByRecursion IsWord (values_needed needs registers)
values_words needs registers all = mapped_words registers (registers_needed needs) all

module _ (shape : ShapeView) where
  values_counted : (target : ℕ) (needs : Option ℕ) (registers : List ℕ) → shape.needs target ≡ needs → length (values_needed needs registers) ≡ value_count shape target
  values_counted target needs registers is =
      length-mapped (register_of registers) (registers_needed needs) ∙ sym (ap (λ found. length (registers_needed found)) is)

  recorded_records : (may : Bool) (rec : Record) → (may ≡ true → HasRecord shape rec) → AllByRecursion (HasRecord shape) (recorded_if may rec)
  recorded_records true rec is = (is refl, tt)
  recorded_records false rec is = tt

  -- an end where no word was carried out, or where a jump came to nothing
  nowhere_record : (kind detail : ℕ) → IsWord kind → IsWord detail → HasRecord shape (End 0 kind detail)
  nowhere_record kind detail number told = record { aligned = refl; slot = refl; values = tt; words = (omega arith, (number, (told, tt))) }

  -- the records of a code word at an address, with these registers after the step
  module _ (at : ℕ) (registers : List ℕ) (aligned : at % 4 ≡ 0) (small : IsWord at) (inside : (shape.slot at).code ≡ true) (all : AllByRecursion IsWord registers) where
    -- the number of a kind has room beside the address
    room : (bits : ℕ) → bits < 4 → IsWord (at + bits)
    room bits few = omega (arith, aligned, small, few)

    value_records : (register : ℕ) → AllByRecursion (HasRecord shape) (value_events shape at registers register)
    value_records register =
        recorded_records (shape.slot at).value (Value at (register_of registers register)) (λ may. record {
          aligned = aligned;
          slot = may;
          values = tt;
          words = (room 2 (omega arith), (register_word registers register all, tt));
        })

    fall_records : AllByRecursion (HasRecord shape) (fall_events shape at registers)
    fall_records = recorded_records (shape.slot at).fall (Fall at) (λ may. record { aligned = aligned; slot = may; values = tt; words = (room 0 (omega arith), tt) })

    landing_or_taken : (target : ℕ) (landing : Bool) → IsWord target → (shape.slot at).landing ≡ landing
        → AllByRecursion (HasRecord shape) (cond landing (Landing at target (values_needed (shape.needs target) registers) ∷ []) (recorded_if (shape.slot at).taken (Taken at)))
    landing_or_taken target true word may = (
      record {
        aligned = aligned;
        slot = may;
        values = values_counted target (shape.needs target) registers refl;
        words = (room 2 (omega arith), (word, values_words (shape.needs target) registers all));
      },
      tt,
    )
    landing_or_taken target false word may =
        recorded_records (shape.slot at).taken (Taken at) (λ may. record { aligned = aligned; slot = may; values = tt; words = (room 1 (omega arith), tt) })

    jump_records : (target : ℕ) → IsWord target → AllByRecursion (HasRecord shape) (jump_events shape at registers target)
    jump_records target word = landing_or_taken target (shape.slot at).landing word refl

    at_end_records : (ending : Ending) → IsWord (detail_of ending) → AllByRecursion (HasRecord shape) (events_at_end shape at registers ending)
    at_end_records (JumpMisaligned target) word = jump_records target word
    at_end_records (Exit code) word = tt
    at_end_records (Illegal word) small = tt
    at_end_records Breakpoint word = tt
    at_end_records (LoadFault address) word = tt
    at_end_records (StoreFault address) word = tt
    at_end_records (FetchFault address) word = tt

    here_record : (kind detail : ℕ) → IsWord kind → IsWord detail → HasRecord shape (End at kind detail)
    here_record kind detail number told =
        record { aligned = aligned; slot = or_right (at == 0) (shape.slot at).code inside; values = tt; words = (room 3 (omega arith), (number, (told, tt))) }

    end_record : (ending : Ending) → IsWord (detail_of ending) → HasRecord shape (end_event at ending)
    end_record (Exit code) word = here_record 1 code (omega arith) word
    end_record (Illegal word) small = here_record 2 word (omega arith) small
    end_record Breakpoint word = here_record 3 0 (omega arith) word
    end_record (LoadFault address) word = here_record 4 address (omega arith) word
    end_record (StoreFault address) word = here_record 5 address (omega arith) word
    end_record (FetchFault address) word = nowhere_record 6 address (omega arith) word
    end_record (JumpMisaligned target) word = nowhere_record 7 target (omega arith) word

    effect_records : (effect : Effect) → ShowsWords effect → AllByRecursion (HasRecord shape) (effect_events shape at registers effect)
    effect_records Passes shows = fall_records
    effect_records (Sets register value access) shows = all_append (HasRecord shape) (value_events shape at registers register) (fall_events shape at registers) (value_records register) fall_records
    effect_records (Stores addresses bytes access) shows = fall_records
    effect_records (Jumps link target) shows = jump_records target shows
    effect_records (Gives channel bytes) shows = all_append (HasRecord shape) (value_events shape at registers 10) (fall_events shape at registers) (value_records 10) fall_records
    effect_records (Takes addresses) shows = all_append (HasRecord shape) (value_events shape at registers 10) (fall_events shape at registers) (value_records 10) fall_records
    effect_records (Ends ending) shows = all_append (HasRecord shape) (events_at_end shape at registers ending) (end_event at ending ∷ []) (at_end_records ending shows) (end_record ending shows, tt)

  -- of steps
  after_words : (s : State) (outcome : StepOutcome) → IsState s → AfterStep outcome IsState → AllByRecursion IsWord (registers_after s outcome)
  after_words s (Went next items) is next_is = next_is.registers
  after_words s (EndedWith ending items) is next_is = is.registers

  behind_fetch : (pc : ℕ) (outcome : StepOutcome) → AfterStep (after_fetch pc outcome) IsState → AfterStep outcome IsState
  behind_fetch pc (Went next items) is = is
  behind_fetch pc (EndedWith ending items) is = tt

  module _ (program : Program) (inside : (address : ℕ) → is_code program.code address ≡ true → (shape.slot address).code ≡ true) (its : (word : ℕ) → IsItsWord word) (keeps : KeepsRanges) where
    step_records : (s : State) → IsState s → AllByRecursion (HasRecord shape) (step_events shape program s)
    unfolding step_events step_of
    step_records s is = by_code (is_code program.code s.pc) refl (keeps program s is)
      where
        by_code : (code : Bool) → is_code program.code s.pc ≡ code
            → AfterStep (carried_out program.has_note s (cond code (Some (number_of (bytes_at s.memory (span s.pc 4)))) None)) IsState
            → AllByRecursion (HasRecord shape) (events_of_fetched shape program.has_note s (cond code (Some (number_of (bytes_at s.memory (span s.pc 4)))) None))
        by_code false outside next = (nowhere_record 6 s.pc (omega arith) is.pc, tt)
        by_code true code next =
            let word : ℕ = number_of (bytes_at s.memory (span s.pc 4)) in
            let effect : Effect = effect_of program.has_note (meaning_of word) s.pc s.registers s.memory in
            effect_records s.pc (registers_after s (settled s effect)) (is_code-aligned program.code s.pc code) is.pc (inside s.pc code)
            (after_words s (settled s effect) is (behind_fetch s.pc (settled s effect) next)) effect
            (effect_shows program.has_note word s.pc s.registers s.memory (fetched_word s.memory s.pc is.memory) (its word) is.registers)

    behind_records : (outcome : StepOutcome) (rest : State → List Record) → AfterStep outcome IsState → ((next : State) → IsState next → AllByRecursion (HasRecord shape) (rest next))
        → AllByRecursion (HasRecord shape) (events_behind_step outcome rest)
    behind_records (Went next items) rest is each = each next is
    behind_records (EndedWith ending items) rest is each = tt

    run_records : (count : ℕ) (s : State) → IsState s → AllByRecursion (HasRecord shape) (events_from shape program count s)
    unfolding events_from
    run_records zero s is = tt
    run_records (suc count) s is =
        all_append (HasRecord shape) (step_events shape program s) (events_behind_step (step_of program s) (λ next. events_from shape program count next)) (step_records s is)
        (behind_records (step_of program s) (λ next. events_from shape program count next) (keeps program s is) (λ next next_is. run_records count next next_is))

  -- an End comes at the end alone
  abbrev IsNoEnd : Record → Type 0
  IsNoEnd rec = kind_in rec ≡ kinds.End → ⊥

  recorded_ends_nothing : (may : Bool) (rec : Record) → IsNoEnd rec → AllByRecursion IsNoEnd (recorded_if may rec)
  recorded_ends_nothing true rec no_end = (no_end, tt)
  recorded_ends_nothing false rec no_end = tt

  before_one : (rec : Record) (records : List Record) → IsNoEnd rec → EndsOnce records → EndsOnce (rec ∷ records)
  before_one rec [] no_end once = absurd once
  before_one rec (next ∷ records) no_end once = (no_end, once)

  before_all : (front records : List Record) → AllByRecursion IsNoEnd front → EndsOnce records → EndsOnce (front ++ records)
  before_all [] records no_end once = once
  before_all (rec ∷ front) records no_end once = before_one rec (front ++ records) no_end.0 (before_all front records no_end.1 once)

  module _ (at : ℕ) (registers : List ℕ) where
    value_ends_nothing : (register : ℕ) → AllByRecursion IsNoEnd (value_events shape at registers register)
    value_ends_nothing register = recorded_ends_nothing (shape.slot at).value (Value at (register_of registers register)) (λ same. absurd (cc same))

    fall_ends_nothing : AllByRecursion IsNoEnd (fall_events shape at registers)
    fall_ends_nothing = recorded_ends_nothing (shape.slot at).fall (Fall at) (λ same. absurd (cc same))

    either_ends_nothing : (target : ℕ) (landing : Bool)
        → AllByRecursion IsNoEnd (cond landing (Landing at target (values_needed (shape.needs target) registers) ∷ []) (recorded_if (shape.slot at).taken (Taken at)))
    either_ends_nothing target true = (λ same. absurd (cc same), tt)
    either_ends_nothing target false = recorded_ends_nothing (shape.slot at).taken (Taken at) (λ same. absurd (cc same))

    at_end_ends_nothing : (ending : Ending) → AllByRecursion IsNoEnd (events_at_end shape at registers ending)
    at_end_ends_nothing (JumpMisaligned target) = either_ends_nothing target (shape.slot at).landing
    at_end_ends_nothing (Exit code) = tt
    at_end_ends_nothing (Illegal word) = tt
    at_end_ends_nothing Breakpoint = tt
    at_end_ends_nothing (LoadFault address) = tt
    at_end_ends_nothing (StoreFault address) = tt
    at_end_ends_nothing (FetchFault address) = tt

  -- the events of a step that went on have no End, and those of one that ended have it last
  abbrev EndsRightly : StepOutcome → List Record → Type 0
  EndsRightly (Went next items) records = AllByRecursion IsNoEnd records
  EndsRightly (EndedWith ending items) records = EndsOnce records

  effect_ends : (s : State) (registers : List ℕ) (effect : Effect) → EndsRightly (settled s effect) (effect_events shape s.pc registers effect)
  effect_ends s registers Passes = fall_ends_nothing s.pc registers
  effect_ends s registers (Sets register value access) =
      all_append IsNoEnd (value_events shape s.pc registers register) (fall_events shape s.pc registers) (value_ends_nothing s.pc registers register) (fall_ends_nothing s.pc registers)
  effect_ends s registers (Stores addresses bytes access) = fall_ends_nothing s.pc registers
  effect_ends s registers (Jumps link target) = either_ends_nothing s.pc registers target (shape.slot s.pc).landing
  effect_ends s registers (Gives channel bytes) =
      all_append IsNoEnd (value_events shape s.pc registers 10) (fall_events shape s.pc registers) (value_ends_nothing s.pc registers 10) (fall_ends_nothing s.pc registers)
  effect_ends s registers (Takes addresses) =
      all_append IsNoEnd (value_events shape s.pc registers 10) (fall_events shape s.pc registers) (value_ends_nothing s.pc registers 10) (fall_ends_nothing s.pc registers)
  effect_ends s registers (Ends ending) = before_all (events_at_end shape s.pc registers ending) (end_event s.pc ending ∷ []) (at_end_ends_nothing s.pc registers ending) refl

  word_ends : (s : State) (effect : Effect) → EndsRightly (settled s effect) (word_events shape s effect)
  word_ends s effect = effect_ends s (registers_after s (settled s effect)) effect

  fetch_ends : (pc : ℕ) (outcome : StepOutcome) (records : List Record) → EndsRightly outcome records → EndsRightly (after_fetch pc outcome) records
  fetch_ends pc (Went next items) records is = is
  fetch_ends pc (EndedWith ending items) records is = is

  fetched_ends : (has_note : Bool) (s : State) (found : Option ℕ) → EndsRightly (carried_out has_note s found) (events_of_fetched shape has_note s found)
  fetched_ends has_note s None = refl
  fetched_ends has_note s (Some word) = fetch_ends s.pc (settled s (effect_of has_note (meaning_of word) s.pc s.registers s.memory)) (word_events shape s (effect_of has_note (meaning_of word) s.pc s.registers s.memory)) (word_ends s (effect_of has_note (meaning_of word) s.pc s.registers s.memory))

  step_ends : (program : Program) (s : State) → EndsRightly (step_of program s) (step_events shape program s)
  unfolding step_events step_of
  step_ends program s = fetched_ends program.has_note s (fetched program s)

  joined_ends : (s : State) (outcome : StepOutcome) (records : List Record) (rest_run : State → Run) (rest : State → List Record) → EndsRightly outcome records
      → ((next : State) → IsSome (rest_run next).ending → EndsOnce (rest next)) → IsSome (first_step s outcome rest_run).ending → EndsOnce (records ++ events_behind_step outcome rest)
  joined_ends s (Went next items) records rest_run rest is each some = before_all records (rest next) is (each next some)
  joined_ends s (EndedWith ending items) records rest_run rest is each some = subst EndsOnce (sym (append-nil records)) is

  run_ends : (program : Program) (count : ℕ) (s : State) → IsSome (run program count s).ending → EndsOnce (events_from shape program count s)
  unfolding events_from run
  run_ends program zero s some = absurd (cc some)
  run_ends program (suc count) s some =
      joined_ends s (step_of program s) (step_events shape program s) (λ next. run program count next) (λ next. events_from shape program count next) (step_ends program s)
      (λ next ended. run_ends program count next ended) some

pub read_back : (image : Image) → ((word : ℕ) → IsItsWord word) → KeepsRanges → BeginsInRanges image → ((shape : ShapeView) → IsReadBack shape) → EventFilesAreReadBack image
read_back image its keeps begins reads marks shape input count is bytes =
    let records = run_records shape (program_of image) (λ address code. (is.slot address).code ∙ code) its keeps count (start_of image input) (begins input bytes) in
    record {
      records = records;
      once = run_ends shape (program_of image) count (start_of image input);
      file = λ ended. reads shape (events_from shape (program_of image) count (start_of image input)) records (run_ends shape (program_of image) count (start_of image input) ended);
    }

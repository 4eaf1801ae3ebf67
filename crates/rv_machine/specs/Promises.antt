-- What the calls of a machine promise, each part by its name.
use Rattle.std.specs.Prelude.{◌≡◌, ◌≢◌, ℕ, List, Option, None, Some, Result, Ok, Err, IfOk}
use Rattle.ae_nums.specs.declared.item.Item.{Item}
use Rattle.ae_ports.specs.Content.{Appends, AppendsFront}
use Rattle.rv_code.specs.declared.ending.Ending.{Ending}
use Rattle.rv_memory.specs.Outline.{outline}
use Rattle.rv_machine.specs.declared.outcome.MachineFault.{MachineFault}
use Rattle.rv_machine.specs.declared.outcome.MachineFault.TheVariants.{EventFault}
use Rattle.rv_machine.specs.declared.outcome.Outcome.{Outcome}
use Rattle.rv_machine.specs.declared.outcome.Outcome.TheVariants.{Spent}
use Rattle.rv_machine.specs.declared.seen.Step.{Step}
use Rattle.rv_machine.specs.Held.{Held, Outside, program_in, state_of}
use Rattle.rv_machine.specs.Outcomes.{Steps, Runs, seen_in, seen_of, step_again, run_again, kept_by_step, kept_by_run}
use Rattle.rv_machine.specs.Ports.{Told, Counts, Rises, HasCauses, PassesOn}

-- a fact about each of the four objects that a call is given
pub record ForEach (one two three four : Type 0) : Type 0 where
  pub input : one
  pub out : two
  pub err : three
  -- the sink of the event bytes, or the taker of the items
  pub last : four

-- A call of a machine that keeps an answer: it gives that, and the machine and the four objects are the same.
pub record IsIdle (one two three : Type 0) : Type 0 where
  pub answer : one
  pub machine : two
  pub objects : three

-- What `step` answers and leaves. `same` says that each object is as before, `stands` that what it was made with and stands on is.
pub record AnswersStep (before : Held) (told : Told) (faults : Counts) (result : Result Step MachineFault) (now : Held) (told_now : Told) (faults_now : Counts) (same stands : Type 0) : Type 0 where
  -- where the input tells its bytes, it is the step of the machine's state
  pub step : before.kept ≡ None → (bytes : List ℕ) → told.input ≡ Some bytes → Steps bytes before told result now told_now
  -- whatever is told, the fetch and the access are those of that step
  pub seen : before.kept ≡ None → (outside : Outside) → IfOk result (λ step. seen_in step ≡ seen_of (program_in before) (state_of before outside))
  -- some bytes passed, and nothing else happened to what is told
  pub passes : before.kept ≡ None → PassesOn told told_now
  pub cause : before.kept ≡ None → HasCauses result faults faults_now
  pub keeps : before.kept ≡ None → now.kept ≡ kept_by_step result
  -- after an ending and after a fault
  pub again : (answer : Result Ending MachineFault) → before.kept ≡ Some answer → IsIdle (result ≡ step_again answer) (now ≡ before) same
  pub program : program_in now ≡ program_in before
  pub note : now.note ≡ before.note
  pub outline : outline now.memory.stretches ≡ outline before.memory.stretches
  pub rests : stands

-- no device has failed under the machine
abbrev pub HasNotFailed : Held → Type 0
HasNotFailed held = (fault : MachineFault) → held.kept ≢ Some (Err fault)

-- these bytes went to the sink of events, or a front of them
abbrev pub GivesEvents : (bytes : List ℕ) → Result Unit MachineFault → (told told_now : Option (List ℕ)) → Type 0
GivesEvents bytes (Ok done) told told_now = Appends told told_now bytes
GivesEvents bytes (Err fault) told told_now = (fault ≡ EventFault) × AppendsFront told told_now bytes

-- only where the sink's count of faults rose there is a fault
abbrev pub IsSinksFault : Result Unit MachineFault → (faults faults_now : ℕ) → Type 0
IsSinksFault (Ok done) faults faults_now = faults_now ≡ faults
IsSinksFault (Err fault) faults faults_now = Rises faults faults_now

-- a machine keeps a fault, and all else is as before
abbrev pub keeping : Held → Result Unit MachineFault → Held
keeping held (Ok done) = held
keeping held (Err fault) = record held { kept = Some (Err fault) }

-- What `head` and `tail` answer and leave, which give these bytes to the sink of events.
pub record AnswersGiving (bytes : List ℕ) (before : Held) (told : Option (List ℕ)) (faults : ℕ) (result : Result Unit MachineFault) (now : Held) (told_now : Option (List ℕ)) (faults_now : ℕ) (same stands : Type 0) : Type 0 where
  pub gives : HasNotFailed before → GivesEvents bytes result told told_now
  pub cause : HasNotFailed before → IsSinksFault result faults faults_now
  pub keeps : HasNotFailed before → now ≡ keeping before result
  -- after a fault
  pub again : (fault : MachineFault) → before.kept ≡ Some (Err fault) → IsIdle (result ≡ Err fault) (now ≡ before) same
  pub rests : stands

-- What `run` and `trace` answer and leave, whose taker took some items.
pub record AnswersRun (fuel : ℕ) (before : Held) (told : Told) (faults : Counts) (takes : List Item → Type 0) (result : Result Outcome MachineFault) (now : Held) (told_now : Told) (faults_now : Counts) (same stands : Type 0) : Type 0 where
  -- where the input tells its bytes, it is the run from the machine's state on
  pub run : before.kept ≡ None → (bytes : List ℕ) → told.input ≡ Some bytes → Runs bytes fuel before told takes result now told_now
  pub took : before.kept ≡ None → IfOk result (λ _. (items : List Item) × takes items)
  pub passes : before.kept ≡ None → PassesOn told told_now
  pub cause : before.kept ≡ None → HasCauses result faults faults_now
  pub keeps : before.kept ≡ None → now.kept ≡ kept_by_run result
  -- After an ending and after a fault, whatever the fuel is, also 0: so only a machine that could go on answers that its
  -- steps are spent.
  pub again : (answer : Result Ending MachineFault) → before.kept ≡ Some answer → IsIdle (result ≡ run_again answer) (now ≡ before) same
  pub spent : result ≡ Ok Spent → before.kept ≡ None
  pub program : program_in now ≡ program_in before
  pub note : now.note ≡ before.note
  pub outline : outline now.memory.stretches ≡ outline before.memory.stretches
  pub rests : stands

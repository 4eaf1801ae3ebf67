-- What the calls of a machine answer, and what they leave, by the step and the run of the state that it holds. All of it
-- is said where the input tells its bytes.
use Rattle.std.specs.Prelude.{◌≡◌, ℕ, ◌≤◌, List, [], ◌∷◌, ◌++◌, length, take, if◌then◌else◌, Option, None, Some, Result, Ok, Err}
use Rattle.std.specs.Option.{option_map, option_to_list}
use Rattle.ae_nums.specs.declared.item.Item.{Item}
use Rattle.ae_nums.specs.declared.item.Item.TheVariants.{Fetch}
use Rattle.ae_ports.specs.Content.{Consumes, Appends, AppendsFront}
use Rattle.rv_code.specs.declared.ending.Ending.{Ending}
use Rattle.rv_code.specs.Code.{is_code}
use Rattle.rv_machine.specs.declared.outcome.MachineFault.{MachineFault}
use Rattle.rv_machine.specs.declared.outcome.Outcome.{Outcome}
use Rattle.rv_machine.specs.declared.outcome.Outcome.TheVariants.{Ended, Spent}
use Rattle.rv_machine.specs.declared.seen.Seen.{Seen}
use Rattle.rv_machine.specs.declared.seen.Step.{Step}
use Rattle.rv_machine.specs.State.{State}
use Rattle.rv_machine.specs.Step.{Program, StepOutcome, Went, EndedWith, step_of}
use Rattle.rv_machine.specs.Run.{Run, run, items_from}
use Rattle.rv_machine.specs.Held.{Held, fresh, outside_of, program_in, state_of}
use Rattle.rv_machine.specs.Ports.{Told}

-- the items of a step: its fetch, and then its access
abbrev pub items_in : Seen → List Item
items_in seen = option_to_list (option_map Fetch seen.fetch) ++ option_to_list seen.access

-- nothing was fetched
abbrev pub nothing_seen : Seen
nothing_seen = record { fetch = None; access = None }

-- the address of a step's fetch: the pc, where a code word stands there
abbrev pub fetch_of : Program → State → Option ℕ
fetch_of program s = if is_code program.code s.pc then Some s.pc else None

-- the access that comes behind the fetch among the items of a step
abbrev pub access_behind : List Item → Option Item
access_behind [] = None
access_behind (fetch ∷ []) = None
access_behind (fetch ∷ access ∷ items) = Some access

-- the access of a step; one that ends the run has none
abbrev pub access_of : StepOutcome → Option Item
access_of (Went next items) = access_behind items
access_of (EndedWith ending items) = None

-- what a step shows of itself
abbrev pub seen_of : Program → State → Seen
seen_of program s = record { fetch = fetch_of program s; access = access_of (step_of program s) }

abbrev pub seen_in : Step → Seen
seen_in (Step.Went seen) = seen
seen_in (Step.Ended ending seen) = seen

-- how a run stands, as an outcome
abbrev pub outcome_of : Option Ending → Outcome
outcome_of None = Spent
outcome_of (Some ending) = Ended ending

-- what a machine keeps after an answer
abbrev pub kept_by_step : Result Step MachineFault → Option (Result Ending MachineFault)
kept_by_step (Ok (Step.Went seen)) = None
kept_by_step (Ok (Step.Ended ending seen)) = Some (Ok ending)
kept_by_step (Err fault) = Some (Err fault)

abbrev pub kept_by_run : Result Outcome MachineFault → Option (Result Ending MachineFault)
kept_by_run (Ok Spent) = None
kept_by_run (Ok (Ended ending)) = Some (Ok ending)
kept_by_run (Err fault) = Some (Err fault)

-- what a machine that keeps an answer answers
abbrev pub step_again : Result Ending MachineFault → Result Step MachineFault
step_again (Ok ending) = Ok (Step.Ended ending nothing_seen)
step_again (Err fault) = Err fault

abbrev pub run_again : Result Ending MachineFault → Result Outcome MachineFault
run_again (Ok ending) = Ok (Ended ending)
run_again (Err fault) = Err fault

-- A state was reached: the machine and the input are as it says, and the outputs got what it has of them.
pub record Reaches (s : State) (before now : Told) (held : Held) : Type 0 where
  pub state : state_of held (outside_of s) ≡ s
  pub input : now.input ≡ Some s.input
  pub out : Appends before.out now.out s.out
  pub err : Appends before.err now.err s.err
  pub events : Appends before.events now.events s.events

-- A device failed on the way to a state: the outputs got fronts of what it has of them.
pub record FailsBefore (s : State) (before now : Told) : Type 0 where
  pub taken : (bytes : List ℕ) × Consumes before.input now.input bytes
  pub out : AppendsFront before.out now.out s.out
  pub err : AppendsFront before.err now.err s.err
  pub events : AppendsFront before.events now.events s.events

-- one step from a state on, in which nothing has been given yet
abbrev pub StepComesTo : StepOutcome → (start : State) → (before : Told) → Result Step MachineFault → (held : Held) → (now : Told) → Type 0
StepComesTo outcome start before (Ok (Step.Went seen)) held now =
    (next : State) × (outcome ≡ Went next (items_in seen)) × Reaches next before now held
StepComesTo outcome start before (Ok (Step.Ended ending seen)) held now =
    (outcome ≡ EndedWith ending (items_in seen)) × Reaches start before now held
StepComesTo outcome start before (Err fault) held now =
    (next : State) × (items : List Item) × (outcome ≡ Went next items) × FailsBefore next before now

-- what the call of a step answers and leaves, where the input told these bytes
abbrev pub Steps : (input : List ℕ) → (before : Held) → Told → Result Step MachineFault → (now : Held) → Told → Type 0
Steps input before told result now told_now =
    StepComesTo (step_of (program_in before) (state_of before (fresh input))) (state_of before (fresh input)) told result now told_now

-- the run of a machine on an input, at most so many steps, in which nothing has been given yet; and its items
abbrev pub run_in : Held → (input : List ℕ) → ℕ → Run
run_in held input count = run (program_in held) count (state_of held (fresh input))

abbrev pub items_in_run : Held → (input : List ℕ) → ℕ → List Item
items_in_run held input count = items_from (program_in held) count (state_of held (fresh input))

-- a taker took a front of these items
abbrev pub TookFront : (took : List Item → Type 0) → List Item → Type 0
TookFront took items = (count : ℕ) × (count ≤ length items) × took (take count items)

-- what a run answers and leaves, and which items it gave
abbrev pub RunComesTo : Run → (items : List Item) → (before : Told) → (took : List Item → Type 0) → Result Outcome MachineFault → (held : Held) → (now : Told) → Type 0
RunComesTo r items before took (Ok outcome) held now = (outcome ≡ outcome_of r.ending) × Reaches r.last before now held × took items
RunComesTo r items before took (Err fault) held now = FailsBefore r.last before now × TookFront took items

-- what the call of a run answers and leaves, where the input told these bytes
abbrev pub Runs : (input : List ℕ) → (count : ℕ) → (before : Held) → Told → (took : List Item → Type 0) → Result Outcome MachineFault → (now : Held) → Told → Type 0
Runs input count before told took result now told_now =
    RunComesTo (run_in before input count) (items_in_run before input count) told took result now told_now

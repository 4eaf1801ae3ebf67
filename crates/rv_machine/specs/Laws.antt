-- Laws of steps and runs, in the words that the working calls' contracts use.
use Rattle.std.specs.Prelude.{◌≡◌, ℕ, ◌+◌, ◌≤◌, List, ◌++◌, length, IsTrue, Option, None, Some, slice_index}
use Rattle.std.specs.List.{AllByRecursion}
use Rattle.ae_nums.specs.declared.item.Item.{Item}
use Rattle.rv_code.specs.declared.ending.Ending.{Ending}
use Rattle.rv_code.specs.declared.image.Image.{Image}
use Rattle.rv_code.specs.declared.image.Range.{Range}
use Rattle.rv_code.specs.Code.{code_word}
use Rattle.rv_code.specs.Numbers.{IsByte, IsWord, number_of}
use Rattle.rv_code.specs.Addresses.{tracer_start}
use Rattle.rv_memory.specs.Memory.{Cell, Rise, span, bytes_at, is_mapped, permission_at}
use Rattle.rv_memory.specs.Stretches.{memory_of, mapping_of}
use Rattle.rv_machine.specs.State.{State}
use Rattle.rv_machine.specs.Step.{Program, program_of, AfterStep, fetched, step_of}
use Rattle.rv_machine.specs.Run.{Run, run, items_from}
use Rattle.rv_machine.specs.Start.{start_of}
use Rattle.rv_machine.specs.Clean.{StepsCleanly}

-- a run, and what comes after it where it hasn't ended
abbrev pub joined : Option Ending → Run → Run → Run
joined None before after = record { last = after.last; ending = after.ending; steps = before.steps + after.steps }
joined (Some ending) before after = before

-- the items of a run, and those of what comes after it where it hasn't ended
abbrev pub items_joined : Option Ending → List Item → List Item → List Item
items_joined None before after = before ++ after
items_joined (Some ending) before after = before

-- A run of m + n steps is a run of m and then, from its last state on, of n.
abbrev pub RunsJoin : Type 0
RunsJoin =
    (program : Program) (m n : ℕ) (s : State)
    → run program (m + n) s ≡ joined (run program m s).ending (run program m s) (run program n (run program m s).last)

abbrev pub ItemsJoin : Type 0
ItemsJoin =
    (program : Program) (m n : ℕ) (s : State)
    → items_from program (m + n) s
    ≡ items_joined (run program m s).ending (items_from program m s) (items_from program n (run program m s).last)

-- A step maps and unmaps nothing at or above c0000000, and changes nowhere there whether a byte is writable.
abbrev pub KeepsTracers : Type 0
KeepsTracers =
    (program : Program) (s : State)
    → AfterStep (step_of program s) (λ next. (address : ℕ) → tracer_start ≤ address → permission_at next.memory address ≡ permission_at s.memory address)

-- the address of a byte of the image's regions or of the stack
abbrev pub IsOfImage : Image → ℕ → Type 0
IsOfImage image address = IsTrue (is_mapped (memory_of (mapping_of image.regions)) address)

-- Nor does it where the image's regions and the stack are.
abbrev pub KeepsRegions : Type 0
KeepsRegions =
    (image : Image) (s : State)
    → AfterStep (step_of (program_of image) s) (λ next. (address : ℕ) → IsOfImage image address → permission_at next.memory address ≡ permission_at s.memory address)

-- a cell of a byte within the address space
pub record IsCell (cell : Cell) : Type 0 where
  pub address : IsWord cell.address
  pub byte : IsByte cell.byte

-- the numbers of a state are in their ranges, and each address has at most one byte
pub record IsState (s : State) : Type 0 where
  pub pc : IsWord s.pc
  pub count : length s.registers ≡ 32
  pub zero : slice_index s.registers 0 ≡ 0
  pub registers : AllByRecursion IsWord s.registers
  pub memory : AllByRecursion IsCell s.memory
  pub once : Rise 0 s.memory
  pub input : AllByRecursion IsByte s.input
  pub out : AllByRecursion IsByte s.out
  pub err : AllByRecursion IsByte s.err
  pub events : AllByRecursion IsByte s.events

-- so it is at the start of an image's run, whatever the input
abbrev pub BeginsInRanges : Image → Type 0
BeginsInRanges image = (input : List ℕ) → AllByRecursion IsByte input → IsState (start_of image input)

-- a step keeps it so, and x0 at 0
abbrev pub KeepsRanges : Type 0
KeepsRanges = (program : Program) (s : State) → IsState s → AfterStep (step_of program s) IsState

-- a list of bytes is the front of another
abbrev pub IsFrontOf : List ℕ → List ℕ → Type 0
IsFrontOf front whole = (rest : List ℕ) × (whole ≡ front ++ rest)

-- the outputs and the event bytes of a state are fronts of another's
pub record HasGiven (before after : State) : Type 0 where
  pub out : IsFrontOf before.out after.out
  pub err : IsFrontOf before.err after.err
  pub events : IsFrontOf before.events after.events

-- what was given stays given
abbrev pub OutputsGrow : Type 0
OutputsGrow = (program : Program) (count : ℕ) (s : State) → HasGiven s (run program count s).last

-- memory has the code words as they are in these ranges
abbrev pub HoldsCode : List Range → List Cell → Type 0
HoldsCode code memory = (address word : ℕ) → code_word code address ≡ Some word → number_of (bytes_at memory (span address 4)) ≡ word

-- so it is at the start of an image's run
abbrev pub BeginsWithCode : Image → Type 0
BeginsWithCode image = (input : List ℕ) → HoldsCode image.code (start_of image input).memory

-- a clean step keeps it so
abbrev pub CleanStepsKeepCode : Image → Type 0
CleanStepsKeepCode image =
    (s : State) → HoldsCode image.code s.memory → StepsCleanly (program_of image) s (fetched (program_of image) s)
    → AfterStep (step_of (program_of image) s) (λ next. HoldsCode image.code next.memory)

-- and what is fetched then is the image's code word
abbrev pub FetchesItsCode : Image → Type 0
FetchesItsCode image = (s : State) → HoldsCode image.code s.memory → fetched (program_of image) s ≡ code_word image.code s.pc

-- The ways on from an instruction: it falls to the next address, or takes its direct target. A way is a test: true is taken. This
-- project's own.
use Rattle.std.specs.Prelude.{◌≡◌, ℕ, ◌+◌, Bool, true, false, List, [], ◌∷◌, ◌++◌, Option, Some, None, filter, if◌then◌else◌}
use Rattle.std.specs.Option.{option_and_then}
use Rattle.rv_code.specs.declared.class.Class.{Class}
use Rattle.rv_code.specs.declared.class.Class.TheVariants.{Plain, Load, Store, Branch, Jump, Indirect, Call, Stop}
use Rattle.rv_code.specs.declared.instr.Instr.{Instr}
use Rattle.rv_code.specs.Numbers.{IsWord, wrap}
use Rattle.rv_code.specs.Parts.{class_of, target_of}

-- the class goes on to the next address, if only where a branch isn't taken
abbrev pub falls : Class → Bool
falls Plain = true
falls Load = true
falls Store = true
falls Branch = true
falls Jump = false
falls Indirect = false
falls Call = true
falls Stop = false

-- behind such a class a run of words ends that are always carried out together
abbrev pub ends_a_run : Class → Bool
ends_a_run Plain = false
ends_a_run Load = false
ends_a_run Store = false
ends_a_run Branch = true
ends_a_run Jump = true
ends_a_run Indirect = true
ends_a_run Call = false
ends_a_run Stop = true

-- where a way leads from an instruction at this address, if the instruction has that way
abbrev pub way_to : (taken : Bool) → Instr → ℕ → Option ℕ
way_to true instr address = target_of instr address
way_to false instr address = if falls (class_of instr) then Some (wrap (address + 4)) else None

abbrev pub as_list : Option ℕ → List ℕ
as_list None = []
as_list (Some address) = address ∷ []

-- where a way leads, if a code word stands there
abbrev pub successor_by : (is_code : ℕ → Bool) → (taken : Bool) → Instr → ℕ → Option ℕ
successor_by is_code taken instr address = option_and_then (λ next. if is_code next then Some next else None) (way_to taken instr address)

-- The direct successors: where the ways lead to code words. What an indirect jump goes to is none of them.
abbrev pub successors_of : (is_code : ℕ → Bool) → Instr → ℕ → List ℕ
successors_of is_code instr address = filter is_code (as_list (way_to false instr address) ++ as_list (way_to true instr address))

-- what is asked of an address is answered as this test answers
abbrev pub AnswersAs : (answers : ℕ → Bool → Type 0) → (test : ℕ → Bool) → Type 0
AnswersAs answers test = (address : ℕ) (answer : Bool) → IsWord address → answers address answer → answer ≡ test address

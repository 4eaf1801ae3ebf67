-- Numbers of a state stay in their ranges.
use Rattle.std.proofs.Common.{◌≡◌, ◌≢◌, ℕ, zero, suc, ◌+◌, ◌/◌, ◌%◌, Bool, true, false, cond, List, [], ◌∷◌, ◌++◌, replicate, map, length, take, drop, set, get_or, Option, None, Some, refl, ◌∙◌, eqb, arith, length-set, get_or-set_other}
use Rattle.std.specs.Prelude.{⊤, ◌&&◌, is_none, if◌then◌else◌, ◌==◌, nat_le}
use Rattle.std.specs.List.{AllByRecursion, list_all}
use Rattle.rv_code.specs.declared.instr.Instr.{Instr}
use Rattle.rv_code.specs.declared.instr.Instr.TheVariants.{Lui, Auipc, Jal, Jalr, Branch, Load, Store, OpImm, Op, Fence, Ecall, Ebreak, Bad}
use Rattle.rv_code.specs.declared.instr.LoadOp.{LoadOp}
use Rattle.rv_code.specs.declared.instr.StoreOp.{StoreOp}
use Rattle.rv_code.specs.declared.ending.Ending.TheVariants.{Exit, JumpMisaligned}
use Rattle.rv_code.specs.Addresses.{tracer_start}
use Rattle.rv_code.specs.Numbers.{IsByte, IsWord, wrap, unsigned, bytes_of}
use Rattle.rv_code.specs.Results.{is_taken}
use Rattle.rv_code.specs.Table.{meaning_of}
use Rattle.rv_memory.specs.Memory.{Cell, span, bytes_at, first_hole, first_shut, with_byte, written}
use Rattle.rv_memory.proofs.LawsOfCells.{rise-written}
use Rattle.rv_machine.specs.State.{State, register_of, with_register}
use Rattle.rv_machine.specs.Effect.{Effect, Passes, Sets, Stores, Jumps, Gives, Takes, Ends, Channel, Out, Err, Events, load_at, store_at, store_size, jump_to, indirect_target, effect_with}
use Rattle.rv_machine.specs.Calls.{call_read, call_write, call_exit, bad_descriptor, bad_address, no_call, read_call, write_out, write_events, write_call, effect_of_call, effect_of}
use Rattle.rv_machine.specs.Step.{settled, AfterStep}
use Rattle.rv_machine.specs.Laws.{IsCell, IsState, KeepsRanges}
use Rattle.rv_machine.proofs.Mapped.{after_step}
use Rattle.rv_machine.proofs.LawsOfStates.{byte_in_memory}

-- the numbers that an effect puts into a state are in their ranges
abbrev IsEffect : Effect → Type 0
IsEffect Passes = ⊤
IsEffect (Sets register value access) = ⊤
IsEffect (Stores addresses bytes access) = AllByRecursion IsByte bytes
IsEffect (Jumps link target) = IsWord target
IsEffect (Gives channel bytes) = AllByRecursion IsByte bytes
IsEffect (Takes addresses) = ⊤
IsEffect (Ends ending) = ⊤

pub are_bytes : (count n : ℕ) → AllByRecursion IsByte (bytes_of count n)
are_bytes zero n = tt
are_bytes (suc count) n = (omega arith, are_bytes count (n / 256))

-- what holds of the elements of two lists holds of those of both
pub all_of_both : {X : Type 0} (P : X → Type 0) (xs ys : List X) → AllByRecursion P xs → AllByRecursion P ys → AllByRecursion P (xs ++ ys)
all_of_both P [] ys f g = g
all_of_both P (x ∷ xs) ys f g = (f.0, all_of_both P xs ys f.1 g)

pub zeros_are_bytes : (count : ℕ) → AllByRecursion IsByte (replicate count 0)
zeros_are_bytes zero = tt
zeros_are_bytes (suc count) = (omega arith, zeros_are_bytes count)

abbrev pub AreCells : List Cell → Type 0
AreCells memory = AllByRecursion IsCell memory

bytes_in_memory : (memory : List Cell) (addresses : List ℕ) → AreCells memory → AllByRecursion IsByte (bytes_at memory addresses)
bytes_in_memory memory [] h = tt
bytes_in_memory memory (address ∷ addresses) h = (byte_in_memory memory address h, bytes_in_memory memory addresses h)

-- an effect that a test chooses
chosen_effect : (t : Bool) (one other : Effect) → IsEffect one → IsEffect other → IsEffect (cond t one other)
chosen_effect true one other f g = f
chosen_effect false one other f g = g

jump_in_range : (link target : ℕ) → IsWord target → IsEffect (jump_to link target)
jump_in_range link target h = chosen_effect (eqb (target % 4) 0) (Jumps link target) (Ends (JumpMisaligned target)) h tt

load_in_range : (op : LoadOp) (rd address : ℕ) (memory : List Cell) (hole : Option ℕ) → IsEffect (load_at op rd address memory hole)
load_in_range op rd address memory None = tt
load_in_range op rd address memory (Some hole) = tt

store_in_range : (op : StoreOp) (value address : ℕ) (shut : Option ℕ) → IsEffect (store_at op value address shut)
store_in_range op value address None = are_bytes (store_size op) value
store_in_range op value address (Some shut) = tt

write_out_in_range : (channel : Channel) (buffer : List ℕ) (memory : List Cell) → AreCells memory → IsEffect (write_out channel buffer memory)
write_out_in_range channel buffer memory h =
    chosen_effect (is_none (first_hole memory buffer)) (Gives channel (bytes_at memory buffer)) bad_address (bytes_in_memory memory buffer h) tt

write_events_in_range : (has_note : Bool) (count : ℕ) (buffer : List ℕ) (memory : List Cell) → AreCells memory → IsEffect (write_events has_note count buffer memory)
write_events_in_range has_note count buffer memory h =
    chosen_effect (has_note && nat_le 1 count && is_none (first_hole memory buffer) && list_all (λ address. nat_le tracer_start address) buffer)
    (Gives Events (bytes_at memory buffer)) bad_descriptor (bytes_in_memory memory buffer h) tt

write_in_range : (has_note : Bool) (descriptor count : ℕ) (buffer : List ℕ) (memory : List Cell) → AreCells memory → IsEffect (write_call has_note descriptor count buffer memory)
write_in_range has_note descriptor count buffer memory h =
    let events : Effect = write_events has_note count buffer memory in
    let to_events : Effect = if descriptor == 3 then events else bad_descriptor in
    let to_err : Effect = if descriptor == 2 then write_out Err buffer memory else to_events in
    chosen_effect (descriptor == 1) (write_out Out buffer memory) to_err (write_out_in_range Out buffer memory h)
    (chosen_effect (descriptor == 2) (write_out Err buffer memory) to_events (write_out_in_range Err buffer memory h)
    (chosen_effect (descriptor == 3) events bad_descriptor (write_events_in_range has_note count buffer memory h) tt))

read_in_range : (descriptor : ℕ) (buffer : List ℕ) (memory : List Cell) → IsEffect (read_call descriptor buffer memory)
read_in_range descriptor buffer memory =
    let takes : Effect = if is_none (first_shut memory buffer) then Takes buffer else bad_address in
    chosen_effect (descriptor == 0) takes bad_descriptor (chosen_effect (is_none (first_shut memory buffer)) (Takes buffer) bad_address tt tt) tt

call_in_range : (has_note : Bool) (registers : List ℕ) (memory : List Cell) → AreCells memory → IsEffect (effect_of_call has_note registers memory)
call_in_range has_note registers memory h =
    let number : ℕ = register_of registers 17 in
    let buffer : List ℕ = span (register_of registers 11) (register_of registers 12) in
    let reads : Effect = read_call (register_of registers 10) buffer memory in
    let writes : Effect = write_call has_note (register_of registers 10) (register_of registers 12) buffer memory in
    let exits : Effect = Ends (Exit (register_of registers 10)) in
    let exits_or : Effect = if number == call_exit then exits else no_call in
    let writes_or : Effect = if number == call_write then writes else exits_or in
    chosen_effect (number == call_read) reads writes_or (read_in_range (register_of registers 10) buffer memory)
    (chosen_effect (number == call_write) writes exits_or (write_in_range has_note (register_of registers 10) (register_of registers 12) buffer memory h)
    (chosen_effect (number == call_exit) exits no_call tt tt))

sum_in_range : (n : ℕ) → IsWord (wrap n)
sum_in_range n = omega arith

even_in_range : (n : ℕ) → IsWord (indirect_target n)
even_in_range n = omega arith

effect_in_range : (call : Effect) (instr : Instr) (pc : ℕ) (registers : List ℕ) (memory : List Cell) → IsEffect call → IsEffect (effect_with call instr pc registers memory)
effect_in_range call (Lui rd imm) pc registers memory h = tt
effect_in_range call (Auipc rd imm) pc registers memory h = tt
effect_in_range call (OpImm op rd rs1 imm) pc registers memory h = tt
effect_in_range call (Op op rd rs1 rs2) pc registers memory h = tt
effect_in_range call (Fence word) pc registers memory h = tt
effect_in_range call (Jal rd imm) pc registers memory h = jump_in_range rd (wrap (pc + unsigned imm)) (sum_in_range _)
effect_in_range call (Jalr rd rs1 imm) pc registers memory h = jump_in_range rd (indirect_target (register_of registers rs1 + unsigned imm)) (even_in_range _)
effect_in_range call (Branch op rs1 rs2 imm) pc registers memory h =
    chosen_effect (is_taken op (register_of registers rs1) (register_of registers rs2)) (jump_to 0 (wrap (pc + unsigned imm))) Passes
    (jump_in_range 0 (wrap (pc + unsigned imm)) (sum_in_range _)) tt
effect_in_range call (Load op rd rs1 imm) pc registers memory h = load_in_range op rd _ memory _
effect_in_range call (Store op rs1 rs2 imm) pc registers memory h = store_in_range op _ _ _
effect_in_range call Ecall pc registers memory h = h
effect_in_range call Ebreak pc registers memory h = tt
effect_in_range call (Bad word) pc registers memory h = tt

-- registers after a write
length-with_register : (registers : List ℕ) (number value : ℕ) → length (with_register registers number value) ≡ length registers
length-with_register registers zero value = refl
length-with_register registers (suc number) value = length-set registers (suc number) (wrap value)

first-with_register : (registers : List ℕ) (number value : ℕ) → get_or (with_register registers number value) 0 0 ≡ get_or registers 0 0
first-with_register registers zero value = refl
first-with_register registers (suc number) value =
    let apart : 0 ≢ suc number = omega arith in
    get_or-set_other registers (suc number) 0 (wrap value) 0 apart

pub words-set : (registers : List ℕ) (number value : ℕ) → AllByRecursion IsWord registers → IsWord value → AllByRecursion IsWord (set registers number value)
words-set [] number value h v = h
words-set (register ∷ registers) zero value h v = (v, h.1)
words-set (register ∷ registers) (suc number) value h v = (h.0, words-set registers number value h.1 v)

words-with_register : (registers : List ℕ) (number value : ℕ) → AllByRecursion IsWord registers → AllByRecursion IsWord (with_register registers number value)
words-with_register registers zero value h = h
words-with_register registers (suc number) value h = words-set registers (suc number) (wrap value) h (sum_in_range value)

-- memory after a write
byte_either_way : (t : Bool) (byte other : ℕ) → IsByte byte → IsByte other → IsByte (cond t byte other)
byte_either_way true byte other f g = f
byte_either_way false byte other f g = g

bytes-with_byte : (address byte : ℕ) (memory : List Cell) → IsByte byte → AreCells memory → AreCells (map (with_byte address byte) memory)
bytes-with_byte address byte [] b h = tt
bytes-with_byte address byte (cell ∷ memory) b h =
    (record { address = h.0.address; byte = byte_either_way (eqb cell.address address) byte cell.byte b h.0.byte }, bytes-with_byte address byte memory b h.1)

bytes-written : (memory : List Cell) (addresses bytes : List ℕ) → AllByRecursion IsByte bytes → AreCells memory → AreCells (written memory addresses bytes)
bytes-written memory [] bytes b h = h
bytes-written memory (address ∷ addresses) [] b h = h
bytes-written memory (address ∷ addresses) (byte ∷ bytes) b h =
    bytes-written (map (with_byte address byte) memory) addresses bytes b.1 (bytes-with_byte address byte memory b.0 h)

bytes-take : (count : ℕ) (bytes : List ℕ) → AllByRecursion IsByte bytes → AllByRecursion IsByte (take count bytes)
bytes-take zero bytes h = tt
bytes-take (suc count) [] h = tt
bytes-take (suc count) (byte ∷ bytes) h = (h.0, bytes-take count bytes h.1)

bytes-drop : (count : ℕ) (bytes : List ℕ) → AllByRecursion IsByte bytes → AllByRecursion IsByte (drop count bytes)
bytes-drop zero bytes h = h
bytes-drop (suc count) [] h = tt
bytes-drop (suc count) (byte ∷ bytes) h = bytes-drop count bytes h.1

settled_in_range : (s : State) (effect : Effect) → IsState s → IsEffect effect → AfterStep (settled s effect) IsState
settled_in_range s Passes h e =
    record { pc = sum_in_range _; count = h.count; zero = h.zero; registers = h.registers; memory = h.memory; once = h.once; input = h.input; out = h.out; err = h.err; events = h.events }
settled_in_range s (Sets register value access) h e =
    record {
      pc = sum_in_range _;
      count = length-with_register s.registers register value ∙ h.count;
      zero = first-with_register s.registers register value ∙ h.zero;
      registers = words-with_register s.registers register value h.registers;
      memory = h.memory;
      once = h.once;
      input = h.input;
      out = h.out;
      err = h.err;
      events = h.events;
    }
settled_in_range s (Stores addresses bytes access) h e =
    record {
      pc = sum_in_range _;
      count = h.count;
      zero = h.zero;
      registers = h.registers;
      memory = bytes-written s.memory addresses bytes e h.memory;
      once = rise-written s.memory addresses bytes h.once;
      input = h.input;
      out = h.out;
      err = h.err;
      events = h.events;
    }
settled_in_range s (Jumps link target) h e =
    record {
      pc = e;
      count = length-with_register s.registers link (s.pc + 4) ∙ h.count;
      zero = first-with_register s.registers link (s.pc + 4) ∙ h.zero;
      registers = words-with_register s.registers link (s.pc + 4) h.registers;
      memory = h.memory;
      once = h.once;
      input = h.input;
      out = h.out;
      err = h.err;
      events = h.events;
    }
settled_in_range s (Gives Out bytes) h e =
    record {
      pc = sum_in_range _;
      count = length-with_register s.registers 10 (length bytes) ∙ h.count;
      zero = first-with_register s.registers 10 (length bytes) ∙ h.zero;
      registers = words-with_register s.registers 10 (length bytes) h.registers;
      memory = h.memory;
      once = h.once;
      input = h.input;
      out = all_of_both IsByte s.out bytes h.out e;
      err = h.err;
      events = h.events;
    }
settled_in_range s (Gives Err bytes) h e =
    record {
      pc = sum_in_range _;
      count = length-with_register s.registers 10 (length bytes) ∙ h.count;
      zero = first-with_register s.registers 10 (length bytes) ∙ h.zero;
      registers = words-with_register s.registers 10 (length bytes) h.registers;
      memory = h.memory;
      once = h.once;
      input = h.input;
      out = h.out;
      err = all_of_both IsByte s.err bytes h.err e;
      events = h.events;
    }
settled_in_range s (Gives Events bytes) h e =
    record {
      pc = sum_in_range _;
      count = length-with_register s.registers 10 (length bytes) ∙ h.count;
      zero = first-with_register s.registers 10 (length bytes) ∙ h.zero;
      registers = words-with_register s.registers 10 (length bytes) h.registers;
      memory = h.memory;
      once = h.once;
      input = h.input;
      out = h.out;
      err = h.err;
      events = all_of_both IsByte s.events bytes h.events e;
    }
settled_in_range s (Takes addresses) h e =
    record {
      pc = sum_in_range _;
      count = length-with_register s.registers 10 (length (take (length addresses) s.input)) ∙ h.count;
      zero = first-with_register s.registers 10 (length (take (length addresses) s.input)) ∙ h.zero;
      registers = words-with_register s.registers 10 (length (take (length addresses) s.input)) h.registers;
      memory = bytes-written s.memory addresses (take (length addresses) s.input) (bytes-take (length addresses) s.input h.input) h.memory;
      once = rise-written s.memory addresses (take (length addresses) s.input) h.once;
      input = bytes-drop (length addresses) s.input h.input;
      out = h.out;
      err = h.err;
      events = h.events;
    }
settled_in_range s (Ends ending) h e = tt

pub step_keeps_ranges : KeepsRanges
unfolding effect_of
step_keeps_ranges program s h =
    after_step IsState program s (λ word. settled_in_range s (effect_of program.has_note (meaning_of word) s.pc s.registers s.memory) h
    (effect_in_range (effect_of_call program.has_note s.registers s.memory) (meaning_of word) s.pc s.registers s.memory (call_in_range program.has_note s.registers s.memory h.memory)))

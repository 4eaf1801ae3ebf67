-- The table of calls: this project's own, with the numbers of Linux on RISC-V. The number stands in x17, arguments in
-- x10 to x12, and the answer comes in x10. The buffer of read and write is x12 bytes from x11 on, modulo 2^32.
use Rattle.std.specs.Prelude.{ℕ, ◌-◌, ◌^◌, Bool, ◌&&◌, List, None, is_none, if◌then◌else◌, ◌==◌, nat_le}
use Rattle.std.specs.List.{list_all}
use Rattle.rv_code.specs.declared.ending.Ending.TheVariants.{Exit}
use Rattle.rv_code.specs.declared.instr.Instr.{Instr}
use Rattle.rv_code.specs.Addresses.{tracer_start}
use Rattle.rv_memory.specs.Memory.{Cell, span, bytes_at, first_hole, first_shut}
use Rattle.rv_machine.specs.State.{register_of}
use Rattle.rv_machine.specs.Effect.{Effect, Sets, Gives, Takes, Ends, Channel, Out, Err, Events, effect_with}

abbrev pub call_read : ℕ
call_read = 63

abbrev pub call_write : ℕ
call_write = 64

abbrev pub call_exit : ℕ
call_exit = 93

-- an answer of minus so much, and no effect beside
abbrev pub refuses : ℕ → Effect
refuses code = Sets 10 (2 ^ 32 - code) None

-- no such descriptor
abbrev pub bad_descriptor : Effect
bad_descriptor = refuses 9

-- a byte of the buffer isn't mapped, or isn't writable
abbrev pub bad_address : Effect
bad_address = refuses 14

-- there is no such call
abbrev pub no_call : Effect
no_call = refuses 38

-- read: from descriptor 0 alone, into a buffer that is writable as a whole, also where the input is shorter
abbrev pub read_call : (descriptor : ℕ) → (buffer : List ℕ) → List Cell → Effect
read_call descriptor buffer memory =
    if descriptor == 0 then (if is_none (first_shut memory buffer) then Takes buffer else bad_address) else bad_descriptor

-- write to an output, from a buffer that is mapped as a whole
abbrev pub write_out : Channel → (buffer : List ℕ) → List Cell → Effect
write_out channel buffer memory =
    if is_none (first_hole memory buffer) then Gives channel (bytes_at memory buffer) else bad_address

-- Write to descriptor 3, in an image with a note alone: event bytes, from a buffer that isn't empty and that is mapped,
-- as a whole, among what belongs to the tracer.
abbrev pub write_events : (has_note : Bool) → (count : ℕ) → (buffer : List ℕ) → List Cell → Effect
write_events has_note count buffer memory =
    if has_note && nat_le 1 count && is_none (first_hole memory buffer) && list_all (λ address. nat_le tracer_start address) buffer
    then Gives Events (bytes_at memory buffer)
    else bad_descriptor

abbrev pub write_call : (has_note : Bool) → (descriptor count : ℕ) → (buffer : List ℕ) → List Cell → Effect
write_call has_note descriptor count buffer memory =
    if descriptor == 1 then write_out Out buffer memory
    else (if descriptor == 2 then write_out Err buffer memory
    else (if descriptor == 3 then write_events has_note count buffer memory else bad_descriptor))

-- what a call does with these registers and this memory
abbrev pub effect_of_call : (has_note : Bool) → (registers : List ℕ) → (memory : List Cell) → Effect
effect_of_call has_note registers memory =
    let number : ℕ = register_of registers 17 in
    let buffer : List ℕ = span (register_of registers 11) (register_of registers 12) in
    if number == call_read then read_call (register_of registers 10) buffer memory
    else (if number == call_write then write_call has_note (register_of registers 10) (register_of registers 12) buffer memory
    else (if number == call_exit then Ends (Exit (register_of registers 10)) else no_call))

-- what an instruction at this pc does with these registers and this memory
unfoldable pub effect_of : (has_note : Bool) → Instr → (pc : ℕ) → (registers : List ℕ) → (memory : List Cell) → Effect
effect_of has_note instr pc registers memory = effect_with (effect_of_call has_note registers memory) instr pc registers memory

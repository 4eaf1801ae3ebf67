-- The numbers that an effect shows are words: the target of a jump, and what is told of an ending.
use Rattle.std.proofs.Common.{◌≡◌, ℕ, zero, suc, ◌+◌, ◌%◌, Bool, true, false, cond, eqb, List, [], ◌∷◌, Option, Some, None, refl, sym, ap, subst, ◌∙◌, arith}
use Rattle.std.specs.Prelude.{⊤, ◌&&◌, ◌==◌, not, is_none, find, nat_le, if◌then◌else◌, slice_index}
use Rattle.std.specs.List.{AllByRecursion, list_all, position_or_len}
use Rattle.std.proofs.lemmas.List.Folds.{find_at}
use Rattle.rv_code.specs.declared.ending.Ending.TheVariants.{Exit, JumpMisaligned}
use Rattle.rv_code.specs.declared.instr.Instr.{Instr}
use Rattle.rv_code.specs.declared.instr.Instr.TheVariants.{Lui, Auipc, Jal, Jalr, Branch, Load, Store, OpImm, Op, Fence, Ecall, Ebreak, Bad}
use Rattle.rv_code.specs.declared.instr.LoadOp.{LoadOp}
use Rattle.rv_code.specs.declared.instr.StoreOp.{StoreOp}
use Rattle.rv_code.specs.Addresses.{tracer_start}
use Rattle.rv_code.specs.Encoding.{word_of}
use Rattle.rv_code.specs.Endings.{detail_of}
use Rattle.rv_code.specs.Laws.{IsItsWord}
use Rattle.rv_code.specs.Numbers.{IsByte, IsWord, wrap, unsigned, number_of}
use Rattle.rv_code.specs.Results.{is_taken}
use Rattle.rv_code.specs.Table.{meaning_of}
use Rattle.rv_memory.specs.Memory.{Cell, bytes_at, first_hole, first_shut, is_mapped, is_writable, span}
use Rattle.rv_machine.specs.State.{register_of}
use Rattle.rv_machine.specs.Effect.{Effect, Passes, Sets, Stores, Jumps, Gives, Takes, Ends, Channel, Out, Err, Events, load_at, load_size, store_at, store_size, jump_to, indirect_target, effect_with}
use Rattle.rv_machine.specs.Calls.{call_read, call_write, call_exit, bad_descriptor, bad_address, no_call, read_call, write_out, write_events, write_call, effect_of_call, effect_of}
use Rattle.rv_machine.specs.Laws.{IsCell}
use Rattle.rv_machine.proofs.LawsOfStates.{byte_in_memory}
use Rattle.schema_form.proofs.Rows.{all_at}

-- what an effect shows
abbrev pub ShowsWords : Effect → Type 0
ShowsWords Passes = ⊤
ShowsWords (Sets register value access) = ⊤
ShowsWords (Stores addresses bytes access) = ⊤
ShowsWords (Jumps link target) = IsWord target
ShowsWords (Gives channel bytes) = ⊤
ShowsWords (Takes addresses) = ⊤
ShowsWords (Ends ending) = IsWord (detail_of ending)

pub word_in : (registers : List ℕ) (number : ℕ) → AllByRecursion IsWord registers → IsWord (slice_index registers number)
word_in [] number all = omega arith
word_in (register ∷ registers) zero all = all.0
word_in (register ∷ registers) (suc number) all = word_in registers number all.1

pub register_word : (registers : List ℕ) (number : ℕ) → AllByRecursion IsWord registers → IsWord (register_of registers number)
register_word registers zero all = omega arith
register_word registers (suc number) all = word_in registers (suc number) all

span_words : (address count : ℕ) → IsWord address → AllByRecursion IsWord (span address count)
span_words address zero small = tt
span_words address (suc count) small = (small, span_words (wrap (address + 1)) count (omega arith))

found_word : (test : ℕ → Bool) (words : List ℕ) (word : ℕ) → AllByRecursion IsWord words → find test words ≡ Some word → IsWord word
found_word test words word all is = all_at IsWord words (position_or_len test words) word all (sym (find_at test words) ∙ is)

either : (t : Bool) (one other : Effect) → ShowsWords one → ShowsWords other → ShowsWords (cond t one other)
either true one other f g = f
either false one other f g = g

jump_shows : (link target : ℕ) → IsWord target → ShowsWords (jump_to link target)
jump_shows link target small = either (eqb (target % 4) 0) (Jumps link target) (Ends (JumpMisaligned target)) small small

load_shows : (op : LoadOp) (rd address : ℕ) (memory : List Cell) (hole : Option ℕ) → IsWord address → first_hole memory (span address (load_size op)) ≡ hole
    → ShowsWords (load_at op rd address memory hole)
load_shows op rd address memory None small is = tt
load_shows op rd address memory (Some hole) small is =
    found_word (λ address. not (is_mapped memory address)) (span address (load_size op)) hole (span_words address (load_size op) small) is

store_shows : (op : StoreOp) (value address : ℕ) (memory : List Cell) (shut : Option ℕ) → IsWord address → first_shut memory (span address (store_size op)) ≡ shut
    → ShowsWords (store_at op value address shut)
store_shows op value address memory None small is = tt
store_shows op value address memory (Some shut) small is =
    found_word (λ address. not (is_writable memory address)) (span address (store_size op)) shut (span_words address (store_size op) small) is

out_shows : (channel : Channel) (buffer : List ℕ) (memory : List Cell) → ShowsWords (write_out channel buffer memory)
out_shows channel buffer memory = either (is_none (first_hole memory buffer)) (Gives channel (bytes_at memory buffer)) bad_address tt tt

events_show : (has_note : Bool) (count : ℕ) (buffer : List ℕ) (memory : List Cell) → ShowsWords (write_events has_note count buffer memory)
events_show has_note count buffer memory =
    either (has_note && nat_le 1 count && is_none (first_hole memory buffer) && list_all (λ address. nat_le tracer_start address) buffer)
    (Gives Events (bytes_at memory buffer)) bad_descriptor tt tt

write_shows : (has_note : Bool) (descriptor count : ℕ) (buffer : List ℕ) (memory : List Cell) → ShowsWords (write_call has_note descriptor count buffer memory)
write_shows has_note descriptor count buffer memory =
    let events : Effect = write_events has_note count buffer memory in
    let to_events : Effect = if descriptor == 3 then events else bad_descriptor in
    let to_err : Effect = if descriptor == 2 then write_out Err buffer memory else to_events in
    either (descriptor == 1) (write_out Out buffer memory) to_err (out_shows Out buffer memory)
    (either (descriptor == 2) (write_out Err buffer memory) to_events (out_shows Err buffer memory)
    (either (descriptor == 3) events bad_descriptor (events_show has_note count buffer memory) tt))

read_shows : (descriptor : ℕ) (buffer : List ℕ) (memory : List Cell) → ShowsWords (read_call descriptor buffer memory)
read_shows descriptor buffer memory =
    let takes : Effect = if is_none (first_shut memory buffer) then Takes buffer else bad_address in
    either (descriptor == 0) takes bad_descriptor (either (is_none (first_shut memory buffer)) (Takes buffer) bad_address tt tt) tt

call_shows : (has_note : Bool) (registers : List ℕ) (memory : List Cell) → AllByRecursion IsWord registers → ShowsWords (effect_of_call has_note registers memory)
call_shows has_note registers memory all =
    let number : ℕ = register_of registers 17 in
    let buffer : List ℕ = span (register_of registers 11) (register_of registers 12) in
    let reads : Effect = read_call (register_of registers 10) buffer memory in
    let writes : Effect = write_call has_note (register_of registers 10) (register_of registers 12) buffer memory in
    let exits : Effect = Ends (Exit (register_of registers 10)) in
    let exits_or : Effect = if number == call_exit then exits else no_call in
    let writes_or : Effect = if number == call_write then writes else exits_or in
    either (number == call_read) reads writes_or (read_shows (register_of registers 10) buffer memory)
    (either (number == call_write) writes exits_or (write_shows has_note (register_of registers 10) (register_of registers 12) buffer memory)
    (either (number == call_exit) exits no_call (register_word registers 10 all) tt))

with_shows : (call : Effect) (instr : Instr) (pc : ℕ) (registers : List ℕ) (memory : List Cell) → ((kept : ℕ) → instr ≡ Bad kept → IsWord kept) → ShowsWords call
    → ShowsWords (effect_with call instr pc registers memory)
with_shows call (Lui rd imm) pc registers memory bad h = tt
with_shows call (Auipc rd imm) pc registers memory bad h = tt
with_shows call (OpImm op rd rs1 imm) pc registers memory bad h = tt
with_shows call (Op op rd rs1 rs2) pc registers memory bad h = tt
with_shows call (Fence word) pc registers memory bad h = tt
with_shows call (Jal rd imm) pc registers memory bad h = jump_shows rd (wrap (pc + unsigned imm)) (omega arith)
with_shows call (Jalr rd rs1 imm) pc registers memory bad h = jump_shows rd (indirect_target (register_of registers rs1 + unsigned imm)) (omega arith)
with_shows call (Branch op rs1 rs2 imm) pc registers memory bad h =
    either (is_taken op (register_of registers rs1) (register_of registers rs2)) (jump_to 0 (wrap (pc + unsigned imm))) Passes
    (jump_shows 0 (wrap (pc + unsigned imm)) (omega arith)) tt
with_shows call (Load op rd rs1 imm) pc registers memory bad h =
    load_shows op rd (wrap (register_of registers rs1 + unsigned imm)) memory (first_hole memory (span (wrap (register_of registers rs1 + unsigned imm)) (load_size op))) (omega arith) refl
with_shows call (Store op rs1 rs2 imm) pc registers memory bad h =
    store_shows op (register_of registers rs2) (wrap (register_of registers rs1 + unsigned imm)) memory
    (first_shut memory (span (wrap (register_of registers rs1 + unsigned imm)) (store_size op))) (omega arith) refl
with_shows call Ecall pc registers memory bad h = h
with_shows call Ebreak pc registers memory bad h = omega arith
with_shows call (Bad word) pc registers memory bad h = bad word refl

-- four bytes of memory are a word

four_small : (a b c d : ℕ) → IsByte a → IsByte b → IsByte c → IsByte d → IsWord (number_of (a ∷ b ∷ c ∷ d ∷ []))
four_small a b c d one two three four = omega (arith, one, two, three, four)

pub fetched_word : (memory : List Cell) (pc : ℕ) → AllByRecursion IsCell memory → IsWord (number_of (bytes_at memory (span pc 4)))
fetched_word memory pc all = four_small _ _ _ _ (byte_in_memory memory _ all) (byte_in_memory memory _ all) (byte_in_memory memory _ all) (byte_in_memory memory _ all)

kept_word : (word kept : ℕ) → IsWord word → IsItsWord word → meaning_of word ≡ Bad kept → IsWord kept
kept_word word kept small its is = subst IsWord (sym (its small).1 ∙ ap word_of is) small

pub effect_shows : (has_note : Bool) (word pc : ℕ) (registers : List ℕ) (memory : List Cell) → IsWord word → IsItsWord word → AllByRecursion IsWord registers
    → ShowsWords (effect_of has_note (meaning_of word) pc registers memory)
unfolding effect_of
effect_shows has_note word pc registers memory small its all =
    with_shows (effect_of_call has_note registers memory) (meaning_of word) pc registers memory (λ kept is. kept_word word kept small its is) (call_shows has_note registers memory all)

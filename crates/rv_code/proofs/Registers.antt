-- The registers of what a word means are x0 to x31, since their fields have five bits.
use Rattle.std.proofs.Common.{ℕ, Bool, true, false, cond, List, [], ◌∷◌, arith}
use Rattle.rv_code.specs.declared.instr.Instr.{Instr}
use Rattle.rv_code.specs.Parts.{HasRegisters}
use Rattle.rv_code.specs.Table.{Form, Entry, instruction_table, agrees, read_as, meaning_by, meaning_of}
use Rattle.rv_code.specs.Table.Form.{OfLui, OfAuipc, OfJal, OfJalr, OfBranch, OfLoad, OfStore, OfOpImm, OfShift, OfOp, OfFence, OfEcall, OfEbreak}

form_has_registers : (form : Form) (word : ℕ) → HasRegisters (read_as form word)
form_has_registers OfLui word = omega arith
form_has_registers OfAuipc word = omega arith
form_has_registers OfJal word = omega arith
form_has_registers OfJalr word = (omega arith, omega arith)
form_has_registers (OfBranch op) word = (omega arith, omega arith)
form_has_registers (OfLoad op) word = (omega arith, omega arith)
form_has_registers (OfStore op) word = (omega arith, omega arith)
form_has_registers (OfOpImm op) word = (omega arith, omega arith)
form_has_registers (OfShift op) word = (omega arith, omega arith)
form_has_registers (OfOp op) word = (omega arith, omega arith, omega arith)
form_has_registers OfFence word = tt
form_has_registers OfEcall word = tt
form_has_registers OfEbreak word = tt

either_has_registers : (test : Bool) (one other : Instr) → HasRegisters one → HasRegisters other → HasRegisters (cond test one other)
either_has_registers true one other f g = f
either_has_registers false one other f g = g

entries_have_registers : (entries : List Entry) (word : ℕ) → HasRegisters (meaning_by entries word)
entries_have_registers [] word = tt
entries_have_registers (entry ∷ entries) word =
    either_has_registers (agrees word entry) (read_as entry.form word) (meaning_by entries word) (form_has_registers entry.form word) (entries_have_registers entries word)

pub meaning_has_registers : (word : ℕ) → HasRegisters (meaning_of word)
unfolding meaning_of
meaning_has_registers word = entries_have_registers instruction_table word

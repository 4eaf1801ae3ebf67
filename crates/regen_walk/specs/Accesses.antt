-- What a walk works out of an instruction: the bytes that a load or store touches (RISC-V unprivileged manual, section 2.6), what a
-- Plain word writes (sections 2.4, 13.1 and 13.2), and the links of jumps (section 2.5).
use Rattle.std.specs.Prelude.{ℕ, ◌+◌, ◌==◌, ◌&&◌, Bool, false, List, Option, Some, None}
use Rattle.std.specs.List.{list_any}
use Rattle.std.specs.Option.{option_map_or}
use Rattle.ae_nums.specs.declared.item.Item.{Item}
use Rattle.ae_nums.specs.declared.item.Item.TheVariants.{Read, Write}
use Rattle.rv_code.specs.declared.ending.Ending.{Ending}
use Rattle.rv_code.specs.declared.ending.Ending.TheVariants.{Exit, Illegal, Breakpoint, LoadFault, StoreFault}
use Rattle.rv_code.specs.declared.instr.Instr.{Instr}
use Rattle.rv_code.specs.declared.instr.Instr.TheVariants.{Lui, Auipc, Jal, Jalr, Branch, Load, Store, OpImm, Op, Fence, Ecall, Ebreak, Bad}
use Rattle.rv_code.specs.Endings.{kind_of, detail_of}
use Rattle.rv_code.specs.Numbers.{wrap, unsigned}
use Rattle.rv_code.specs.Parts.{written_by}
use Rattle.rv_code.specs.Results.{result_of}
use Rattle.rv_memory.specs.Memory.{span}
use Rattle.rv_machine.specs.Effect.{load_size, store_size}
use Rattle.rv_machine.specs.State.{register_of, with_register}

-- the bytes that a load reads or a store writes; no other instruction has any
abbrev pub access_by : Instr → List ℕ → Option Item
access_by (Load op rd rs1 imm) registers = Some (Read (wrap (register_of registers rs1 + unsigned imm)) (load_size op))
access_by (Store op rs1 rs2 imm) registers = Some (Write (wrap (register_of registers rs1 + unsigned imm)) (store_size op))
access_by (Lui rd imm) registers = None
access_by (Auipc rd imm) registers = None
access_by (Jal rd imm) registers = None
access_by (Jalr rd rs1 imm) registers = None
access_by (Branch op rs1 rs2 imm) registers = None
access_by (OpImm op rd rs1 imm) registers = None
access_by (Op op rd rs1 rs2) registers = None
access_by (Fence word) registers = None
access_by Ecall registers = None
access_by Ebreak registers = None
access_by (Bad word) registers = None

-- so many bytes from an address on have this one among them
abbrev pub is_among_bytes : (address size byte : ℕ) → Bool
is_among_bytes address size byte = list_any (λ touched. touched == byte) (span address size)

-- the numbers of an ending
abbrev pub are_numbers_of : Ending → (kind detail : ℕ) → Bool
are_numbers_of ending kind detail = (kind == kind_of ending) && (detail == detail_of ending)

-- An End with this kind and detail may stand for the instruction: a call exits, with any code, an illegal word and `ebreak` end as such, and a
-- load or store fails at one of the bytes that it would touch.
abbrev pub may_end : Instr → List ℕ → (kind detail : ℕ) → Bool
may_end Ecall registers kind detail = kind == kind_of (Exit detail)
may_end (Bad word) registers kind detail = are_numbers_of (Illegal word) kind detail
may_end Ebreak registers kind detail = are_numbers_of Breakpoint kind detail
may_end (Load op rd rs1 imm) registers kind detail =
    (kind == kind_of (LoadFault detail)) && is_among_bytes (wrap (register_of registers rs1 + unsigned imm)) (load_size op) detail
may_end (Store op rs1 rs2 imm) registers kind detail =
    (kind == kind_of (StoreFault detail)) && is_among_bytes (wrap (register_of registers rs1 + unsigned imm)) (store_size op) detail
may_end (Lui rd imm) registers kind detail = false
may_end (Auipc rd imm) registers kind detail = false
may_end (Jal rd imm) registers kind detail = false
may_end (Jalr rd rs1 imm) registers kind detail = false
may_end (Branch op rs1 rs2 imm) registers kind detail = false
may_end (OpImm op rd rs1 imm) registers kind detail = false
may_end (Op op rd rs1 rs2) registers kind detail = false
may_end (Fence word) registers kind detail = false

-- the registers after a value was put into the one that the instruction writes, if it writes one
abbrev pub with_written : Instr → List ℕ → (value : ℕ) → List ℕ
with_written instr registers value = option_map_or (λ register. with_register registers register value) (written_by instr) registers

-- the values of the registers that a Plain instruction takes its operands from, 0 where it takes none
abbrev pub operands_of : Instr → List ℕ → ℕ × ℕ
operands_of (OpImm op rd rs1 imm) registers = (register_of registers rs1, 0)
operands_of (Op op rd rs1 rs2) registers = (register_of registers rs1, register_of registers rs2)
operands_of (Lui rd imm) registers = (0, 0)
operands_of (Auipc rd imm) registers = (0, 0)
operands_of (Jal rd imm) registers = (0, 0)
operands_of (Jalr rd rs1 imm) registers = (0, 0)
operands_of (Branch op rs1 rs2 imm) registers = (0, 0)
operands_of (Load op rd rs1 imm) registers = (0, 0)
operands_of (Store op rs1 rs2 imm) registers = (0, 0)
operands_of (Fence word) registers = (0, 0)
operands_of Ecall registers = (0, 0)
operands_of Ebreak registers = (0, 0)
operands_of (Bad word) registers = (0, 0)

-- the registers after a Plain instruction at this address was carried out
abbrev pub carried_out_plain : Instr → (address : ℕ) → List ℕ → List ℕ
carried_out_plain instr address registers =
    with_written instr registers (result_of instr address (operands_of instr registers).0 (operands_of instr registers).1)

-- Listing lines: this project's own, but for the texts of instructions, which are those of the manual's assembly.
use Rattle.std.specs.Prelude.{ℕ, List, ◌++◌, codes}
use Rattle.ae_nums.specs.Hex.{hex8_text}
use Rattle.ae_nums.specs.Trace.{newline}
use Rattle.rv_code.specs.declared.instr.Instr.{Instr}
use Rattle.rv_code.specs.declared.instr.Instr.TheVariants.{Lui, Auipc, Jal, Jalr, Branch, Load, Store, OpImm, Op, Fence, Ecall, Ebreak, Bad}
use Rattle.rv_code.specs.Table.{meaning_of}
use Rattle.rv_text.specs.Names.{branch_name, load_name, store_name, immediate_name, register_name}
use Rattle.rv_text.specs.Shapes.{upper_text, jump_text, place_text, branch_text, immediate_text, registers_text, word_text}

-- an instruction that stands at this address
abbrev pub text_of : (address : ℕ) → Instr → List ℕ
text_of address (Lui rd imm) = upper_text (codes "lui") rd imm
text_of address (Auipc rd imm) = upper_text (codes "auipc") rd imm
text_of address (Jal rd imm) = jump_text rd address imm
text_of address (Jalr rd rs1 imm) = place_text (codes "jalr") rd imm rs1
text_of address (Branch op rs1 rs2 imm) = branch_text (branch_name op) rs1 rs2 address imm
text_of address (Load op rd rs1 imm) = place_text (load_name op) rd imm rs1
text_of address (Store op rs1 rs2 imm) = place_text (store_name op) rs2 imm rs1
text_of address (OpImm op rd rs1 imm) = immediate_text (immediate_name op) rd rs1 imm
text_of address (Op op rd rs1 rs2) = registers_text (register_name op) rd rs1 rs2
text_of address (Fence word) = codes "fence"
text_of address Ecall = codes "ecall"
text_of address Ebreak = codes "ebreak"
text_of address (Bad word) = word_text word

-- as `00010074 05d00893 addi x17, x0, 93`, with the byte that ends it
abbrev pub listing_line : (address word : ℕ) → List ℕ
listing_line address word =
    hex8_text address ++ codes " " ++ hex8_text word ++ codes " " ++ text_of address (meaning_of word) ++ newline

-- The shapes of instructions' texts: the operands in the order of the manual's assembly (RISC-V unprivileged manual, chapter
-- "RISC-V Assembly Programmer's Handbook"). That targets are addresses of eight hexadecimal digits is this project's own.
use Rattle.std.specs.Prelude.{ℕ, ◌+◌, ◌/◌, ◌^◌, ℤ, List, ◌++◌, codes}
use Rattle.std.specs.Fmt.{signed_decimal}
use Rattle.ae_nums.specs.Decimal.{decimal_text}
use Rattle.ae_nums.specs.Hex.{hex_text, hex8_text}
use Rattle.rv_code.specs.Numbers.{wrap, unsigned}

-- as `x5`
abbrev pub register_text : ℕ → List ℕ
register_text register = codes "x" ++ decimal_text register

-- a name and its first register, as `lui x5, `
abbrev pub front_text : (name : List ℕ) → (register : ℕ) → List ℕ
front_text name register = name ++ codes " " ++ register_text register ++ codes ", "

-- where a jump or branch leads: so many bytes past its address
abbrev pub target_text : (address : ℕ) → (imm : ℤ) → List ℕ
target_text address imm = hex8_text (wrap (address + unsigned imm))

-- as `lui x5, 0x00011`: the upper 20 bits
abbrev pub upper_text : (name : List ℕ) → (rd imm : ℕ) → List ℕ
upper_text name rd imm = front_text name rd ++ codes "0x" ++ hex_text 5 (imm / 2 ^ 12)

-- as `jal x1, 00010084`
abbrev pub jump_text : (rd address : ℕ) → (imm : ℤ) → List ℕ
jump_text rd address imm = front_text (codes "jal") rd ++ target_text address imm

-- as `lw x7, 0(x5)`: an offset and a base
abbrev pub place_text : (name : List ℕ) → (register : ℕ) → (imm : ℤ) → (base : ℕ) → List ℕ
place_text name register imm base =
    front_text name register ++ signed_decimal imm ++ codes "(" ++ register_text base ++ codes ")"

-- as `bne x6, x0, 0001007c`
abbrev pub branch_text : (name : List ℕ) → (rs1 rs2 address : ℕ) → (imm : ℤ) → List ℕ
branch_text name rs1 rs2 address imm = front_text name rs1 ++ register_text rs2 ++ codes ", " ++ target_text address imm

-- as `addi x17, x0, 93`
abbrev pub immediate_text : (name : List ℕ) → (rd rs1 : ℕ) → (imm : ℤ) → List ℕ
immediate_text name rd rs1 imm = front_text name rd ++ register_text rs1 ++ codes ", " ++ signed_decimal imm

-- as `add x28, x28, x7`
abbrev pub registers_text : (name : List ℕ) → (rd rs1 rs2 : ℕ) → List ℕ
registers_text name rd rs1 rs2 = front_text name rd ++ register_text rs1 ++ codes ", " ++ register_text rs2

-- as `word 00000000`
abbrev pub word_text : ℕ → List ℕ
word_text word = codes "word " ++ hex8_text word

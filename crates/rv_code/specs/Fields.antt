-- The fields of an instruction word and its immediates (RISC-V unprivileged manual, sections 2.2 and 2.3).
use Rattle.std.specs.Prelude.{ℕ, ◌+◌, ◌*◌, ◌/◌, ◌%◌, ◌^◌, ℤ}
use Rattle.rv_code.specs.Numbers.{sign_extended}

-- so many bits of a word, from this one on
abbrev pub field : ℕ → ℕ → ℕ → ℕ
field word from count = word / 2 ^ from % 2 ^ count

abbrev pub opcode : ℕ → ℕ
opcode word = field word 0 7

abbrev pub rd : ℕ → ℕ
rd word = field word 7 5

abbrev pub funct3 : ℕ → ℕ
funct3 word = field word 12 3

abbrev pub rs1 : ℕ → ℕ
rs1 word = field word 15 5

abbrev pub rs2 : ℕ → ℕ
rs2 word = field word 20 5

abbrev pub funct7 : ℕ → ℕ
funct7 word = field word 25 7

-- bits 31..20 as 11..0
abbrev pub imm_i : ℕ → ℤ
imm_i word = sign_extended (2 ^ 11) (field word 20 12)

-- bits 31..25 as 11..5, and 11..7 as 4..0
abbrev pub imm_s : ℕ → ℤ
imm_s word = sign_extended (2 ^ 11) (field word 25 7 * 2 ^ 5 + field word 7 5)

-- bit 31 as 12, 7 as 11, 30..25 as 10..5, and 11..8 as 4..1
abbrev pub imm_b : ℕ → ℤ
imm_b word = sign_extended (2 ^ 12) (field word 31 1 * 2 ^ 12 + field word 7 1 * 2 ^ 11 + field word 25 6 * 2 ^ 5 + field word 8 4 * 2)

-- bits 31..12 as 31..12
abbrev pub imm_u : ℕ → ℕ
imm_u word = field word 12 20 * 2 ^ 12

-- bit 31 as 20, 19..12 as 19..12, 20 as 11, and 30..21 as 10..1
abbrev pub imm_j : ℕ → ℤ
imm_j word = sign_extended (2 ^ 20) (field word 31 1 * 2 ^ 20 + field word 12 8 * 2 ^ 12 + field word 20 1 * 2 ^ 11 + field word 21 10 * 2)

-- The line of a code word is the same at addresses that are the same modulo 2^32.
use Rattle.std.proofs.Common.{◌≡◌, ℕ, ◌+◌, ◌/◌, ◌%◌, ◌^◌, ◌++◌, codes, refl, ap, ◌∙◌, arith}
use Rattle.ae_nums.specs.Hex.{hex8_text}
use Rattle.ae_nums.specs.Trace.{newline}
use Rattle.rv_code.specs.declared.instr.Instr.{Instr}
use Rattle.rv_code.specs.declared.instr.Instr.TheVariants.{Lui, Auipc, Jal, Jalr, Branch, Load, Store, OpImm, Op, Fence, Ecall, Ebreak, Bad}
use Rattle.rv_code.specs.Numbers.{wrap, unsigned}
use Rattle.rv_code.specs.Table.{meaning_of}
use Rattle.rv_text.specs.Names.{branch_name}
use Rattle.rv_text.specs.Shapes.{front_text, register_text}
use Rattle.rv_text.specs.Listing.{text_of, listing_line}

-- a sum with a number that was taken modulo 2^32
pub wrap_sum : (n more : ℕ) → wrap (wrap n + more) ≡ wrap (n + more)
wrap_sum n more = omega arith

hex8_wrap : (n : ℕ) → hex8_text (wrap n) ≡ hex8_text n
hex8_wrap n =
    let digit7 : n % 2 ^ 32 / 16 ^ 7 % 16 ≡ n / 16 ^ 7 % 16 = omega arith in
    let digit6 : n % 2 ^ 32 / 16 ^ 6 % 16 ≡ n / 16 ^ 6 % 16 = omega arith in
    let digit5 : n % 2 ^ 32 / 16 ^ 5 % 16 ≡ n / 16 ^ 5 % 16 = omega arith in
    let digit4 : n % 2 ^ 32 / 16 ^ 4 % 16 ≡ n / 16 ^ 4 % 16 = omega arith in
    let digit3 : n % 2 ^ 32 / 16 ^ 3 % 16 ≡ n / 16 ^ 3 % 16 = omega arith in
    let digit2 : n % 2 ^ 32 / 16 ^ 2 % 16 ≡ n / 16 ^ 2 % 16 = omega arith in
    let digit1 : n % 2 ^ 32 / 16 ^ 1 % 16 ≡ n / 16 ^ 1 % 16 = omega arith in
    let digit0 : n % 2 ^ 32 / 16 ^ 0 % 16 ≡ n / 16 ^ 0 % 16 = omega arith in
    cc

text_wrap : (n : ℕ) (instr : Instr) → text_of (wrap n) instr ≡ text_of n instr
text_wrap n (Lui rd imm) = refl
text_wrap n (Auipc rd imm) = refl
text_wrap n (Jal rd imm) = ap (λ address. front_text (codes "jal") rd ++ hex8_text address) (wrap_sum n (unsigned imm))
text_wrap n (Jalr rd rs1 imm) = refl
text_wrap n (Branch op rs1 rs2 imm) =
    ap (λ address. front_text (branch_name op) rs1 ++ register_text rs2 ++ codes ", " ++ hex8_text address) (wrap_sum n (unsigned imm))
text_wrap n (Load op rd rs1 imm) = refl
text_wrap n (Store op rs1 rs2 imm) = refl
text_wrap n (OpImm op rd rs1 imm) = refl
text_wrap n (Op op rd rs1 rs2) = refl
text_wrap n (Fence word) = refl
text_wrap n Ecall = refl
text_wrap n Ebreak = refl
text_wrap n (Bad word) = refl

pub line_wrap : (n word : ℕ) → listing_line (wrap n) word ≡ listing_line n word
line_wrap n word =
    ap (λ address. address ++ codes " " ++ hex8_text word ++ codes " " ++ text_of (wrap n) (meaning_of word) ++ newline) (hex8_wrap n)
    ∙ ap (λ text. hex8_text n ++ codes " " ++ hex8_text word ++ codes " " ++ text ++ newline) (text_wrap n (meaning_of word))

-- The fields of words that the encoding formats make, and immediates in two's complement.
use Rattle.std.proofs.Common.{◌≡◌, ℕ, suc, ◌+◌, ◌-◌, ◌*◌, ◌/◌, ◌%◌, ◌^◌, ◌<◌, cond, ℤ, pos, negsuc, sym, refl, ap, ◌∙◌, subst, inl, inr, arith}
use Rattle.std.proofs.lemmas.Bool.{cases_lt, lt-ltb, le-ltb}
use Rattle.rv_code.specs.Fields.{field, opcode, rd, funct3, rs1, rs2, funct7, imm_u}
use Rattle.rv_code.specs.Numbers.{IsWord, sign_extended, unsigned}
use Rattle.rv_code.specs.Encoding.{r_word, i_word, s_word, b_word, u_word, j_word, IsBelow}

-- a word of six fields
pub record HasFields (word o d f a b g : ℕ) : Type 0 where
  pub fits : word < 2 ^ 32
  pub the_opcode : opcode word ≡ o
  pub the_rd : rd word ≡ d
  pub the_funct3 : funct3 word ≡ f
  pub the_rs1 : rs1 word ≡ a
  pub the_rs2 : rs2 word ≡ b
  pub the_funct7 : funct7 word ≡ g

pub r_word-HasFields : (o f g d a b : ℕ) → o < 128 → f < 8 → g < 128 → d < 32 → a < 32 → b < 32 → HasFields (r_word o f g d a b) o d f a b g
r_word-HasFields o f g d a b ho hf hg hd ha hb =
    record {
      fits = omega arith;
      the_opcode = omega arith;
      the_rd = omega arith;
      the_funct3 = omega arith;
      the_rs1 = omega arith;
      the_rs2 = omega arith;
      the_funct7 = omega arith;
    }

-- a word is made of its six fields
pub r_word-of : (word : ℕ) → word < 2 ^ 32 → r_word (opcode word) (funct3 word) (funct7 word) (rd word) (rs1 word) (rs2 word) ≡ word
r_word-of word fits = omega arith

-- the format I
pub i_word-number : (o f d a imm : ℕ) → o < 128 → f < 8 → d < 32 → a < 32 → field (i_word o f d a imm) 20 12 ≡ imm % 2 ^ 12
i_word-number o f d a imm ho hf hd ha = omega arith

pub i_word-of : (word imm : ℕ) → word < 2 ^ 32 → imm % 2 ^ 12 ≡ field word 20 12 → i_word (opcode word) (funct3 word) (rd word) (rs1 word) imm ≡ word
i_word-of word imm fits same = omega arith

-- it is a word of six fields
pub i_word-HasFields : (o f d a imm : ℕ) → o < 128 → f < 8 → d < 32 → a < 32 → HasFields (i_word o f d a imm) o d f a (imm % 32) (imm / 32 % 128)
i_word-HasFields o f d a imm ho hf hd ha =
    let same : i_word o f d a imm ≡ r_word o f (imm / 32 % 128) d a (imm % 32) = omega arith in
    subst (λ w. HasFields w o d f a (imm % 32) (imm / 32 % 128)) (sym same)
    (r_word-HasFields o f (imm / 32 % 128) d a (imm % 32) ho hf (omega arith) hd ha (omega arith))

-- the format S
pub s_word-HasFields : (o f a b imm : ℕ) → o < 128 → f < 8 → a < 32 → b < 32 → HasFields (s_word o f a b imm) o (field imm 0 5) f a b (field imm 5 7)
s_word-HasFields o f a b imm ho hf ha hb = r_word-HasFields o f (field imm 5 7) (field imm 0 5) a b ho hf (omega arith) (omega arith) ha hb

pub s_word-number : (imm : ℕ) → field imm 5 7 * 2 ^ 5 + field imm 0 5 ≡ imm % 2 ^ 12
s_word-number imm = omega arith

pub s_word-of : (word imm : ℕ) → word < 2 ^ 32 → imm % 2 ^ 12 ≡ field word 25 7 * 2 ^ 5 + field word 7 5 → s_word (opcode word) (funct3 word) (rs1 word) (rs2 word) imm ≡ word
s_word-of word imm fits same =
    let low : field imm 0 5 ≡ rd word = omega arith in
    let high : field imm 5 7 ≡ funct7 word = omega arith in
    omega arith

-- the format B
abbrev pub number_b : ℕ → ℕ
number_b word = field word 31 1 * 2 ^ 12 + field word 7 1 * 2 ^ 11 + field word 25 6 * 2 ^ 5 + field word 8 4 * 2

pub b_word-HasFields : (o f a b imm : ℕ) → o < 128 → f < 8 → a < 32 → b < 32
    → HasFields (b_word o f a b imm) o (field imm 11 1 + field imm 1 4 * 2) f a b (field imm 5 6 + field imm 12 1 * 2 ^ 6)
b_word-HasFields o f a b imm ho hf ha hb =
    let same : b_word o f a b imm ≡ r_word o f (field imm 5 6 + field imm 12 1 * 2 ^ 6) (field imm 11 1 + field imm 1 4 * 2) a b = omega arith in
    subst (λ w. HasFields w o (field imm 11 1 + field imm 1 4 * 2) f a b (field imm 5 6 + field imm 12 1 * 2 ^ 6)) (sym same)
    (r_word-HasFields o f (field imm 5 6 + field imm 12 1 * 2 ^ 6) (field imm 11 1 + field imm 1 4 * 2) a b ho hf (omega arith) (omega arith) ha hb)

-- the parts of an immediate in the fields of rd and funct7
from_parts_b : (word p q r s : ℕ) → p < 2 → q < 16 → r < 64 → s < 2 → rd word ≡ p + q * 2 → funct7 word ≡ r + s * 2 ^ 6
    → number_b word ≡ s * 2 ^ 12 + p * 2 ^ 11 + r * 2 ^ 5 + q * 2
from_parts_b word p q r s hp hq hr hs d g =
    let sign : field word 31 1 ≡ s = omega arith in
    let top : field word 7 1 ≡ p = omega arith in
    let middle : field word 25 6 ≡ r = omega arith in
    let low : field word 8 4 ≡ q = omega arith in
    omega arith

parts_of_b : (imm : ℕ) → imm % 2 ≡ 0 → field imm 12 1 * 2 ^ 12 + field imm 11 1 * 2 ^ 11 + field imm 5 6 * 2 ^ 5 + field imm 1 4 * 2 ≡ imm % 2 ^ 13
parts_of_b imm even = omega arith

pub b_word-number : (o f a b imm : ℕ) → o < 128 → f < 8 → a < 32 → b < 32 → imm % 2 ≡ 0 → number_b (b_word o f a b imm) ≡ imm % 2 ^ 13
b_word-number o f a b imm ho hf ha hb even =
    let fields = b_word-HasFields o f a b imm ho hf ha hb in
    from_parts_b (b_word o f a b imm) (field imm 11 1) (field imm 1 4) (field imm 5 6) (field imm 12 1)
    (omega arith) (omega arith) (omega arith) (omega arith) fields.the_rd fields.the_funct7
    ∙ parts_of_b imm even

pub b_word-of : (word imm : ℕ) → word < 2 ^ 32 → imm % 2 ^ 13 ≡ number_b word → b_word (opcode word) (funct3 word) (rs1 word) (rs2 word) imm ≡ word
b_word-of word imm fits same =
    let sign : field imm 12 1 ≡ field word 31 1 = omega arith in
    let top : field imm 11 1 ≡ field word 7 1 = omega arith in
    let middle : field imm 5 6 ≡ field word 25 6 = omega arith in
    let low : field imm 1 4 ≡ field word 8 4 = omega arith in
    let d : field word 7 1 + field word 8 4 * 2 ≡ rd word = omega arith in
    let g : field word 25 6 + field word 31 1 * 2 ^ 6 ≡ funct7 word = omega arith in
    omega (arith, r_word-of word fits)

pub number_b-even : (word : ℕ) → number_b word % 2 ≡ 0
number_b-even word = omega arith

pub number_b-below : (word : ℕ) → number_b word < 2 ^ 13
number_b-below word = omega arith

-- the format U
pub u_word-fields : (o d imm : ℕ) → o < 128 → d < 32 → IsWord imm → imm % 2 ^ 12 ≡ 0
    → (u_word o d imm < 2 ^ 32) × (opcode (u_word o d imm) ≡ o) × (rd (u_word o d imm) ≡ d) × (imm_u (u_word o d imm) ≡ imm)
u_word-fields o d imm ho hd fits whole = (omega arith, omega arith, omega arith, omega arith)

pub u_word-of : (word : ℕ) → word < 2 ^ 32 → u_word (opcode word) (rd word) (imm_u word) ≡ word
u_word-of word fits = omega arith

pub imm_u-whole : (word : ℕ) → (imm_u word < 2 ^ 32) × (imm_u word % 2 ^ 12 ≡ 0)
imm_u-whole word = (omega arith, omega arith)

-- the format J
abbrev pub number_j : ℕ → ℕ
number_j word = field word 31 1 * 2 ^ 20 + field word 12 8 * 2 ^ 12 + field word 20 1 * 2 ^ 11 + field word 21 10 * 2

-- of the immediate's parts
parts_of_j : (imm : ℕ) → imm % 2 ≡ 0 → field imm 20 1 * 2 ^ 20 + field imm 12 8 * 2 ^ 12 + field imm 11 1 * 2 ^ 11 + field imm 1 10 * 2 ≡ imm % 2 ^ 21
parts_of_j imm even = omega arith

j_fields : (o d p q r s : ℕ) (word : ℕ) → o < 128 → d < 32 → p < 2 ^ 8 → q < 2 → r < 2 ^ 10 → s < 2
    → word ≡ o + d * 2 ^ 7 + p * 2 ^ 12 + q * 2 ^ 20 + r * 2 ^ 21 + s * 2 ^ 31
    → (word < 2 ^ 32) × (opcode word ≡ o) × (rd word ≡ d) × (number_j word ≡ s * 2 ^ 20 + p * 2 ^ 12 + q * 2 ^ 11 + r * 2)
j_fields o d p q r s word ho hd hp hq hr hs is =
    let sign : field word 31 1 ≡ s = omega arith in
    let middle : field word 12 8 ≡ p = omega arith in
    let top : field word 20 1 ≡ q = omega arith in
    let low : field word 21 10 ≡ r = omega arith in
    (omega arith, omega arith, omega arith, omega arith)

pub j_word-fields : (o d imm : ℕ) → o < 128 → d < 32 → imm % 2 ≡ 0
    → (j_word o d imm < 2 ^ 32) × (opcode (j_word o d imm) ≡ o) × (rd (j_word o d imm) ≡ d) × (number_j (j_word o d imm) ≡ imm % 2 ^ 21)
j_word-fields o d imm ho hd even =
    let (fits, op, register, number) =
    j_fields o d (field imm 12 8) (field imm 11 1) (field imm 1 10) (field imm 20 1) (j_word o d imm) ho hd (omega arith) (omega arith) (omega arith) (omega arith) refl
    in
    (fits, op, register, number ∙ parts_of_j imm even)

pub j_word-of : (word imm : ℕ) → word < 2 ^ 32 → imm % 2 ^ 21 ≡ number_j word → j_word (opcode word) (rd word) imm ≡ word
j_word-of word imm fits same =
    let sign : field imm 20 1 ≡ field word 31 1 = omega arith in
    let middle : field imm 12 8 ≡ field word 12 8 = omega arith in
    let top : field imm 11 1 ≡ field word 20 1 = omega arith in
    let low : field imm 1 10 ≡ field word 21 10 = omega arith in
    let whole : opcode word + rd word * 2 ^ 7 + field word 12 8 * 2 ^ 12 + field word 20 1 * 2 ^ 20 + field word 21 10 * 2 ^ 21 + field word 31 1 * 2 ^ 31 ≡ word = omega arith in
    omega arith

pub number_j-even : (word : ℕ) → number_j word % 2 ≡ 0
number_j-even word = omega arith

pub number_j-below : (word : ℕ) → number_j word < 2 ^ 21
number_j-below word = omega arith

-- Two's complement: what a signed number of so many bits is as a word, at the halves of 12, 13 and 21 bits.
abbrev HasTurn : ℕ → Type 0
HasTurn half = (n : ℕ) → n < half → ((2 ^ 32 - suc n) % (half + half) ≡ half + half - suc n) × (n % (half + half) ≡ n)

pub turn_i : HasTurn (2 ^ 11)
turn_i n below = (omega arith, omega arith)

pub turn_b : HasTurn (2 ^ 12)
turn_b n below = (omega arith, omega arith)

pub turn_j : HasTurn (2 ^ 20)
turn_j n below = (omega arith, omega arith)

pub sign_extended-unsigned : (half : ℕ) (imm : ℤ) → HasTurn half → IsBelow half imm → sign_extended half (unsigned imm % (half + half)) ≡ imm
sign_extended-unsigned half (pos n) turn below =
    let same : n % (half + half) ≡ n = (turn n below).1 in
    subst (λ (m : ℕ). sign_extended half m ≡ pos n) (sym same)
    (ap (λ b. cond b (pos n) (negsuc (half + half - suc n))) (lt-ltb n half below))
sign_extended-unsigned half (negsuc n) turn below =
    let same : (2 ^ 32 - suc n) % (half + half) ≡ half + half - suc n = (turn n below).0 in
    let back : half + half - suc (half + half - suc n) ≡ n = omega arith in
    subst (λ (m : ℕ). sign_extended half m ≡ negsuc n) (sym same)
    (ap (λ b. cond b (pos (half + half - suc n)) (negsuc (half + half - suc (half + half - suc n)))) (le-ltb (half + half - suc n) half (omega arith))
    ∙ ap negsuc back)

pub unsigned-sign_extended : (half number : ℕ) → HasTurn half → number < half + half → unsigned (sign_extended half number) % (half + half) ≡ number
unsigned-sign_extended half number turn below = elim (cases_lt number half) [
  | inl less ↦
      let here : sign_extended half number ≡ pos number = ap (λ b. cond b (pos number) (negsuc (half + half - suc number))) (lt-ltb number half less) in
      ap (λ imm. unsigned imm % (half + half)) here ∙ (turn number less).1
  | inr more ↦
      let here : sign_extended half number ≡ negsuc (half + half - suc number) = ap (λ b. cond b (pos number) (negsuc (half + half - suc number))) (le-ltb number half more) in
      let back : half + half - suc (half + half - suc number) ≡ number = omega arith in
      ap (λ imm. unsigned imm % (half + half)) here ∙ ((turn (half + half - suc number) (omega arith)).0 ∙ back)
]

pub sign_extended-IsBelow : (half number : ℕ) → number < half + half → IsBelow half (sign_extended half number)
sign_extended-IsBelow half number below = elim (cases_lt number half) [
  | inl less ↦
      let here : sign_extended half number ≡ pos number = ap (λ b. cond b (pos number) (negsuc (half + half - suc number))) (lt-ltb number half less) in
      subst (IsBelow half) (sym here) less
  | inr more ↦
      let here : sign_extended half number ≡ negsuc (half + half - suc number) = ap (λ b. cond b (pos number) (negsuc (half + half - suc number))) (le-ltb number half more) in
      let low : half + half - suc number < half = omega arith in
      subst (IsBelow half) (sym here) low
]

-- The text of what code words need: a line for each, in the order of their addresses. This project's own. Addresses and masks have eight
-- hexadecimal digits.
use Rattle.std.specs.Prelude.{◌≡◌, ◌↔◌, ℕ, Bool, true, false, IsTrue, List, ◌++◌, codes}
use Rattle.std.specs.Int.{bit_at}
use Rattle.rv_code.specs.declared.image.Range.{Range}
use Rattle.rv_code.specs.Code.{extents_of}
use Rattle.rv_code.specs.Places.{code_addresses}
use Rattle.need_sets.specs.Needed.{IsNeeded, IsKept, IsHard}
use Rattle.ae_nums.specs.Hex.{hex8_text}
use Rattle.ae_nums.specs.Trace.{newline}
use Rattle.ae_print.specs.Lines.{AreLines, AreFirstLines}

-- what is said of the value that a word gives: it has to be recorded, or has to be worked out again, or neither
abbrev pub value_text : (hard kept : Bool) → List ℕ
value_text true kept = codes " hard"
value_text false true = codes " kept"
value_text false false = codes " -"

-- as `00010080 00000020 hard`
abbrev pub needs_line : (address mask : ℕ) → (hard kept : Bool) → List ℕ
needs_line address mask hard kept = hex8_text address ++ codes " " ++ hex8_text mask ++ value_text hard kept ++ newline

-- the line of a code word: bit k of its mask is set where it needs x(k)
pub record IsNeedsLine (code : List Range) (address : ℕ) (line : List ℕ) : Type 0 where
  pub mask : ℕ
  pub hard : Bool
  pub kept : Bool
  pub needs : (register : ℕ) → (bit_at mask register ≡ 1) ↔ IsNeeded code address register
  pub is_hard : IsTrue hard ↔ IsHard code address
  pub is_kept : IsTrue kept ↔ IsKept code address
  pub is : line ≡ needs_line address mask hard kept

abbrev pub IsNeedsText : List Range → List ℕ → Type 0
IsNeedsText code = AreLines (IsNeedsLine code) (code_addresses (extents_of code))

-- the lines of the first so many code words
abbrev pub IsFirstOfNeedsText : List Range → List ℕ → Type 0
IsFirstOfNeedsText code = AreFirstLines (IsNeedsLine code) (code_addresses (extents_of code))

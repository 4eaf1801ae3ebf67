-- The text of slices: a line for each load and each store, in the order of their addresses. This project's own. Addresses have eight
-- hexadecimal digits.
use Rattle.std.specs.Prelude.{◌≡◌, ◌↔◌, ℕ, List, ◌++◌, filter}
use Rattle.std.specs.List.{Contains}
use Rattle.std.specs.List.Sorted.{IsStrictlyIncreasing}
use Rattle.rv_code.specs.declared.image.Range.{Range}
use Rattle.rv_code.specs.Code.{extents_of}
use Rattle.rv_code.specs.Places.{code_addresses}
use Rattle.reach_slice.specs.Slices.{is_access, IsInSlice}
use Rattle.ae_nums.specs.Hex.{hex8_text}
use Rattle.ae_nums.specs.Trace.{newline}
use Rattle.ae_print.specs.Lines.{AreLines, AreFirstLines}
use Rattle.ae_print.specs.Spaced.{spaced_words}

-- the addresses of the loads and stores, in order
abbrev pub accesses_of : List Range → List ℕ
accesses_of code = filter (is_access code) (code_addresses (extents_of code))

-- as `00010080 00010074 00010084`: the access, and then the words of its slice
abbrev pub slice_line : (access : ℕ) → (slice : List ℕ) → List ℕ
slice_line access slice = hex8_text access ++ spaced_words slice ++ newline

-- the line of an access: the words of its slice stand in order
pub record IsSliceLine (code : List Range) (access : ℕ) (line : List ℕ) : Type 0 where
  pub slice : List ℕ
  pub words : (word : ℕ) → Contains slice word ↔ IsInSlice code access word
  pub order : IsStrictlyIncreasing slice
  pub is : line ≡ slice_line access slice

abbrev pub IsSliceText : List Range → List ℕ → Type 0
IsSliceText code = AreLines (IsSliceLine code) (accesses_of code)

-- the lines of the first so many accesses
abbrev pub IsFirstOfSliceText : List Range → List ℕ → Type 0
IsFirstOfSliceText code = AreFirstLines (IsSliceLine code) (accesses_of code)

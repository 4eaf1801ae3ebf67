-- What slices and needs have to do with each other.
use Rattle.std.specs.Prelude.{◌≡◌, ◌↔◌, ℕ, true, List, Some}
use Rattle.rv_code.specs.declared.class.Class.TheVariants.{Plain, Load}
use Rattle.rv_code.specs.declared.image.Range.{Range}
use Rattle.need_sets.specs.Needed.{IsKept, IsHard}
use Rattle.need_sets.specs.Words.{class_at}
use Rattle.reach_slice.specs.Slices.{is_access, IsInSlice}

-- the word is in the slice of some load or store
pub record IsInSomeSlice (code : List Range) (word : ℕ) : Type 0 where
  pub access : ℕ
  pub is : is_access code access ≡ true
  pub within : IsInSlice code access word

-- a Plain word is kept exactly where it is in some slice
abbrev pub KeptAreInSlices : List Range → Type 0
KeptAreInSlices code = (word : ℕ) → class_at code word ≡ Some Plain → IsKept code word ↔ IsInSomeSlice code word

-- a load is hard exactly where it is in some slice
abbrev pub HardAreInSlices : List Range → Type 0
HardAreInSlices code = (word : ℕ) → class_at code word ≡ Some Load → IsHard code word ↔ IsInSomeSlice code word

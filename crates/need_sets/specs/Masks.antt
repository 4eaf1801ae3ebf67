-- What is needed at the code words, in the order of their places, as masks: bit k of a mask is set where the word needs x(k).
use Rattle.std.specs.Prelude.{◌≡◌, ◌↔◌, ◌==◌, ℕ, Bool, true, false, List, Option, Some, None, if◌then◌else◌, length}
use Rattle.std.specs.Int.{bit_at}
use Rattle.std.specs.List.{slice_index_or}
use Rattle.rv_code.specs.declared.image.Range.{Range}
use Rattle.rv_code.specs.Code.{extents_of}
use Rattle.rv_code.specs.Image.{word_count}
use Rattle.rv_code.specs.Places.{address_of}
use Rattle.need_sets.specs.Needed.{NeededFor, IsUsedFor}
use Rattle.need_sets.specs.Words.{base_at}

-- the base of one load or store, and no other
abbrev pub base_alone : List Range → (access : ℕ) → ℕ → Option ℕ
base_alone code access address = if address == access then base_at code address else None

-- the masks have exactly what is needed for the bases, and those words are marked of which some direct successor needs what they write
pub record AreNeeded (code : List Range) (bases : ℕ → Option ℕ) (masks : List ℕ) (marks : List Bool) : Type 0 where
  pub mask_cells : length masks ≡ word_count code
  pub mark_cells : length marks ≡ word_count code
  pub needed :
      (place address register : ℕ) → address_of (extents_of code) place ≡ Some address
      → (bit_at (slice_index_or masks place 0) register ≡ 1) ↔ NeededFor code bases address register
  pub used :
      (place address : ℕ) → address_of (extents_of code) place ≡ Some address → (slice_index_or marks place false ≡ true) ↔ IsUsedFor code bases address

-- What else is known of a word where some direct successor needs what it writes.
use Rattle.std.proofs.Common.{◌≡◌, ℕ, List, Option, Some, ◌∙◌}
use Rattle.rv_code.specs.Code.{extents_of}
use Rattle.rv_code.specs.Places.{place_of, AreCodeExtents}
use Rattle.rv_code.specs.declared.image.Range.{Range}
use Rattle.rv_code.proofs.LawsOfLookUps.{is_some-place_of}
use Rattle.rv_code.proofs.LawsOfTests.{some_there}
use Rattle.need_sets.specs.Needed.{IsUsedFor}
use Rattle.need_sets.proofs.Complete.{used_is_code}

-- it has a place
pub used_has_place : (code : List Range) (bases : ℕ → Option ℕ) (address : ℕ) → AreCodeExtents (extents_of code) → IsUsedFor code bases address
    → (place : ℕ) × (place_of (extents_of code) address ≡ Some place)
used_has_place code bases address order used =
    some_there (place_of (extents_of code) address) (is_some-place_of (extents_of code) address order.each ∙ used_is_code code bases address used)

-- Which words' ways are recorded, by places.
use Rattle.std.specs.Prelude.{◌≡◌, ◌↔◌, ℕ, ◌<◌, Bool, true, false, List, Some, length}
use Rattle.std.specs.List.{slice_index_or}
use Rattle.rv_code.specs.Code.{extents_of}
use Rattle.rv_code.specs.Image.{word_count}
use Rattle.rv_code.specs.Places.{address_of}
use Rattle.flow_graph.specs.CodeParts.{CodeParts}
use Rattle.schema_form.specs.OfImage.{IsRecorded}

-- by one of the first so many edges
pub record IsRecordedBefore (parts : CodeParts) (marks : List Bool) (taken : Bool) (count address : ℕ) : Type 0 where
  pub recorded : IsRecorded parts marks taken address
  pub before : recorded.number < count

pub record AreRecordedBefore (parts : CodeParts) (marks : List Bool) (taken : Bool) (count : ℕ) (cells : List Bool) : Type 0 where
  pub size : length cells ≡ word_count parts.code
  pub each :
      (place address : ℕ) → address_of (extents_of parts.code) place ≡ Some address
      → (slice_index_or cells place false ≡ true) ↔ IsRecordedBefore parts marks taken count address

pub record AreRecorded (parts : CodeParts) (marks : List Bool) (taken : Bool) (cells : List Bool) : Type 0 where
  pub size : length cells ≡ word_count parts.code
  pub each :
      (place address : ℕ) → address_of (extents_of parts.code) place ≡ Some address
      → (slice_index_or cells place false ≡ true) ↔ IsRecorded parts marks taken address

-- The words whose way leads to a code word, found from the last of them to the first. Only the clauses of private functions cite this.
use Rattle.std.specs.Prelude.{◌≡◌, ℕ, zero, suc, ◌<◌, Bool, false, List, Option, Some, None, if◌then◌else◌, ◌==◌, length}
use Rattle.std.specs.List.{slice_index_or}
use Rattle.std.specs.Option.{option_and_then, option_map_or}
use Rattle.rv_code.specs.declared.image.Range.{Range}
use Rattle.rv_code.specs.Code.{extents_of}
use Rattle.rv_code.specs.Image.{word_count}
use Rattle.rv_code.specs.Places.{address_of, place_of}
use Rattle.need_sets.specs.Words.{successor_at}

-- the place to which a way leads from the word at a place
abbrev pub led_to : List Range → (taken : Bool) → ℕ → Option ℕ
led_to code taken place =
    option_and_then (λ address. option_and_then (λ next. place_of (extents_of code) next) (successor_at code address taken)) (address_of (extents_of code) place)

-- the last of so many places that leads to the goal, if one does
abbrev pub last_to : (to : ℕ → Option ℕ) → (goal bound : ℕ) → Option ℕ
last_to to goal zero = None
last_to to goal (suc place) = if option_map_or (λ there. there == goal) (to place) false then Some place else last_to to goal place

-- for each place the last of the first `count` words that one way leads there, and for each of these words the one before it
pub record AreSources (code : List Range) (taken : Bool) (count : ℕ) (last before : List (Option ℕ)) : Type 0 where
  pub goals : length last ≡ word_count code
  pub sources : length before ≡ count
  pub lasts : (goal : ℕ) → goal < word_count code → slice_index_or last goal None ≡ last_to (led_to code taken) goal count
  pub befores : (place goal : ℕ) → place < count → led_to code taken place ≡ Some goal → slice_index_or before place None ≡ last_to (led_to code taken) goal place

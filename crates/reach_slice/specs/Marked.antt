-- The marked ones of code words, by marks in the order of their places. Only the clauses of private functions cite this.
use Rattle.std.specs.Prelude.{ℕ, Bool, false, List, filter}
use Rattle.std.specs.List.{slice_index_or}
use Rattle.std.specs.Option.{option_map_or}
use Rattle.rv_code.specs.declared.image.Range.{Range}
use Rattle.rv_code.specs.Code.{extents_of}
use Rattle.rv_code.specs.Places.{code_addresses, place_of}

abbrev pub is_marked : List Range → (marks : List Bool) → ℕ → Bool
is_marked code marks address = option_map_or (λ place. slice_index_or marks place false) (place_of (extents_of code) address) false

abbrev pub marked_words : List Range → (marks : List Bool) → List ℕ
marked_words code marks = filter (is_marked code marks) (code_addresses (extents_of code))

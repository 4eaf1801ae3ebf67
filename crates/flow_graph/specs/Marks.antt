-- Which code words are among given addresses, in the order of places. Only the clauses of private functions cite this.
use Rattle.std.specs.Prelude.{ℕ, Bool, List, map, ◌==◌}
use Rattle.std.specs.List.{list_any}
use Rattle.rv_code.specs.declared.image.Range.{Range}
use Rattle.rv_code.specs.Code.{extents_of}
use Rattle.rv_code.specs.Places.{code_addresses}

abbrev pub is_one_of : List ℕ → ℕ → Bool
is_one_of addresses word = list_any (λ address. address == word) addresses

abbrev pub marks_of : List Range → (addresses : List ℕ) → List Bool
marks_of ranges addresses = map (is_one_of addresses) (code_addresses (extents_of ranges))

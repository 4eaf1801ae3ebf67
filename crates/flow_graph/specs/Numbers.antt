-- The number of the block of each code word, in the order of places. Only the clauses of private functions cite this.
use Rattle.std.specs.Prelude.{◌≡◌, ℕ, List, map, Some}
use Rattle.rv_code.specs.declared.image.Range.{Range}
use Rattle.rv_code.specs.Code.{extents_of}
use Rattle.rv_code.specs.Places.{code_addresses}
use Rattle.flow_graph.specs.Blocks.{block_among}

pub record AreNumbers (ranges : List Range) (starts numbers : List ℕ) : Type 0 where
  pub same : map (λ (number : ℕ). Some number) numbers ≡ map (block_among ranges starts) (code_addresses (extents_of ranges))

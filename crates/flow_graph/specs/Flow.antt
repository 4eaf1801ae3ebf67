-- What is worked out of code words: their blocks and edges, and the number of each word's block. Only the clauses of private functions
-- cite this.
use Rattle.std.specs.Prelude.{◌≡◌, ℕ, List, length}
use Rattle.rv_code.specs.declared.image.Range.{Range}
use Rattle.rv_code.specs.Image.{word_count}
use Rattle.flow_graph.specs.declared.flow.Flow.{Flow}
use Rattle.flow_graph.specs.Blocks.{blocks_among}
use Rattle.flow_graph.specs.Edges.{edges_among}
use Rattle.flow_graph.specs.Numbers.{AreNumbers}

pub record IsFlow (ranges : List Range) (starts : List ℕ) (flow : Flow) : Type 0 where
  pub blocks : flow.blocks ≡ blocks_among ranges starts
  pub edges : flow.edges ≡ edges_among ranges starts
  pub cells : length flow.numbers ≡ word_count ranges
  pub numbers : AreNumbers ranges starts flow.numbers

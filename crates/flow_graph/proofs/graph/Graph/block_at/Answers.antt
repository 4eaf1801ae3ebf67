-- The cell of a code word has the number of its block.
use Rattle.std.proofs.Common.{ap, ◌∙◌, ◌≡◌, ℕ, List}
use Rattle.std.specs.Prelude.{is_some}
use Rattle.rv_code.specs.Code.{extents_of, is_code}
use Rattle.flow_graph.specs.Blocks.{block_among, block_at}
use Rattle.flow_graph.specs.CodeParts.{CodeParts}
use Rattle.flow_graph.specs.GraphView.{graph_parts}
use Rattle.flow_graph.specs.Leaders.{block_starts}
use Rattle.flow_graph.proofs.Counted.{is_some-block_among, numbers_moved}
use Rattle.flow_graph.proofs.graph.Graph.block_at.Goals as goal

pub returns-clause-block : goal.returns-clause-block
returns-clause-block c =
    let starts : List ℕ = block_starts (graph_parts c.self.inside) in
    c.number_at.ensures starts (numbers_moved c.self.inside.code c.as_slice.result.now starts c.self.inside.flow.numbers c.as_slice-2.result.now c.as_slice.ensures c.as_slice-2.ensures c.self.invariant.flow.numbers)
    ∙ (ap (λ ranges. block_among ranges starts c.args.address) c.as_slice.ensures
    ∙ ap (λ (parts : CodeParts). block_at parts c.args.address) c.self.view_is)

pub returns-clause-code : goal.returns-clause-code
returns-clause-code c =
    let starts : List ℕ = block_starts (graph_parts c.self.inside) in
    let block : c.number_at.result ≡ block_among c.self.inside.code starts c.args.address =
    c.number_at.ensures starts (numbers_moved c.self.inside.code c.as_slice.result.now starts c.self.inside.flow.numbers c.as_slice-2.result.now c.as_slice.ensures c.as_slice-2.ensures c.self.invariant.flow.numbers)
    ∙ ap (λ ranges. block_among ranges starts c.args.address) c.as_slice.ensures
    in
    ap is_some block
    ∙ (is_some-block_among c.self.inside.code starts c.self.inside.flow.numbers c.args.address c.self.invariant.order c.self.invariant.flow.cells c.self.invariant.flow.numbers
    ∙ ap (λ (parts : CodeParts). is_code (extents_of parts.code) c.args.address) c.self.view_is)

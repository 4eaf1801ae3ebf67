use Rattle.std.proofs.Common.{◌≤◌, ◌^◌, List, length, sym, subst}
use Rattle.flow_graph.specs.declared.edge.Edge.{Edge}
use Rattle.flow_tree.specs.WitnessEdges.{Joins}
use Rattle.flow_tree.proofs.FewEdges.{few_blocks, few_edges, joins_blocks}
use Rattle.flow_tree.proofs.edges.edges_in.Goals as goal

pub returns-clause-few : goal.returns-clause-few
returns-clause-few c = subst (λ (edges : List Edge). length edges ≤ 2 ^ 31) (sym c.edges.ensures) (few_edges c.args.graph.now c.ranges-words.ensures.order c.ranges-words.ensures.ends)

pub returns-clause-within : goal.returns-clause-within
returns-clause-within c = λ edge one other joined. joins_blocks c.args.graph.now edge one other (subst (λ (edges : List Edge). Joins edges edge one other) c.edges.ensures joined)

pub returns-clause-blocks : goal.returns-clause-blocks
returns-clause-blocks c = few_blocks c.args.graph.now c.ranges-words.ensures.order c.ranges-words.ensures.ends

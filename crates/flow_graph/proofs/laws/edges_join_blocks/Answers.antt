use Rattle.flow_graph.proofs.LawsOfEdges.{blocks_are_few, edges_join}
use Rattle.flow_graph.proofs.laws.edges_join_blocks.Goals as goal

pub returns-clause-edges : goal.returns-clause-edges
returns-clause-edges c = edges_join

pub returns-clause-few : goal.returns-clause-few
returns-clause-few c = blocks_are_few

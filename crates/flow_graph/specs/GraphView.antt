-- How contracts see a graph, and what it keeps beside: the blocks and edges of its code words.
use Rattle.std.specs.Prelude.{◌<◌, ◌^◌}
use Rattle.std.specs.List.{AllByRecursion}
use Rattle.rv_code.specs.Code.{extents_of}
use Rattle.rv_code.specs.Image.{word_count}
use Rattle.rv_code.specs.Places.{AreCodeExtents, EndsInSpace}
use Rattle.flow_graph.specs.declared.graph.Graph.TheInside.{Inside}
use Rattle.flow_graph.specs.CodeParts.{CodeParts}
use Rattle.flow_graph.specs.Flow.{IsFlow}
use Rattle.flow_graph.specs.Leaders.{block_starts}

abbrev pub graph_parts : Inside → CodeParts
graph_parts graph =
    record {
      entry = graph.entry;
      code = graph.code;
      functions = graph.functions;
      routines = graph.routines;
      named = graph.named;
    }

pub record IsGraph (graph : Inside) : Type 0 where
  pub order : AreCodeExtents (extents_of graph.code)
  pub ends : AllByRecursion EndsInSpace (extents_of graph.code)
  pub words : word_count graph.code < 2 ^ 32
  pub flow : IsFlow graph.code (block_starts (graph_parts graph)) graph.flow

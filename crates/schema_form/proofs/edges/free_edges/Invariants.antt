use Rattle.std.proofs.Common.{◌≡◌}
use Rattle.std.specs.List.{flat_map, range_with_len}
use Rattle.schema_form.specs.FreeEdges.{free_edges_at}
use Rattle.schema_form.proofs.edges.free_edges.Given as goal

abbrev pub invariant-loop-place : goal.invariant-loop-place
invariant-loop-place l = l.edges.items ≡ flat_map (free_edges_at l.stretches l.words) (range_with_len 0 l.place)

use Rattle.std.proofs.Common.{◌≡◌, ◌-◌, ◌<◌, ◌≤◌, length}
use Rattle.graph_paths.specs.Forests.{HasNoCycle}
use Rattle.flow_tree.specs.WitnessEdges.{Joins}
use Rattle.schema_form.proofs.cycles.first_to_close.Given as goal

abbrev pub invariant-loop-with : goal.invariant-loop-with
invariant-loop-with l = record {
  apart : l.without < l.with;
  within : l.with ≤ length l.edges;
  room : l.row ≡ l.fn.row;
  forest : HasNoCycle (Joins l.edges) (λ number. number < l.without);
  cycle : HasNoCycle (Joins l.edges) (λ number. number < l.with) → ⊥;
}

abbrev pub decreases-loop-with : goal.decreases-loop-with
decreases-loop-with l = l.with - l.without

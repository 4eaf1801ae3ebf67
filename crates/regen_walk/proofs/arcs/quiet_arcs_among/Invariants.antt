use Rattle.std.proofs.Common.{◌≡◌, take}
use Rattle.regen_walk.specs.FreeArcs.{quiet_arcs_among}
use Rattle.regen_walk.proofs.arcs.quiet_arcs_among.Given as goal

abbrev pub invariant-loop-edge : goal.invariant-loop-edge
invariant-loop-edge l = l.arcs.items ≡ quiet_arcs_among l.words (take l.edge-index l.edges)

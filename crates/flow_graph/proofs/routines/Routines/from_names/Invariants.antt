use Rattle.std.proofs.Common.{◌≡◌, take}
use Rattle.flow_graph.specs.CodeParts.{first_seen}
use Rattle.flow_graph.proofs.routines.Routines.from_names.Given as goal

abbrev pub invariant-loop-name : goal.invariant-loop-name
invariant-loop-name l = l.routines ≡ first_seen (take l.name-index l.names)

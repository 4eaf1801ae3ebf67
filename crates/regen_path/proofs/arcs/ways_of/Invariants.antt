use Rattle.regen_path.proofs.Tabled.{HasSome}
use Rattle.regen_path.proofs.arcs.ways_of.Given as goal

abbrev pub invariant-loop-arc : goal.invariant-loop-arc
invariant-loop-arc l = HasSome l.arcs l.count l.ways.items l.arc-index

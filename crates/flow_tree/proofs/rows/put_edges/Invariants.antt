use Rattle.flow_tree.specs.Inner.Rows.{HaveJoined}
use Rattle.flow_tree.proofs.rows.put_edges.Given as goal

abbrev pub invariant-loop-number : goal.invariant-loop-number
invariant-loop-number l = HaveJoined l.edges l.fn.rows 0 → HaveJoined l.edges l.rows l.number

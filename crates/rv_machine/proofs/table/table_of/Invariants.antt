use Rattle.rv_memory.specs.Stretches.{memory_of}
use Rattle.rv_machine.proofs.Fixed.{SoFar}
use Rattle.rv_machine.proofs.table.table_of.Given as goal

abbrev pub invariant-loop-place : goal.invariant-loop-place
invariant-loop-place l = SoFar l.extent (memory_of l.memory) l.instrs.items l._place l.address

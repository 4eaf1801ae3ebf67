use Rattle.std.specs.Prelude.{All}
use Rattle.rv_memory.specs.Stretches.{memory_of}
use Rattle.rv_machine.specs.Inner.Decoded.{IsTable}
use Rattle.rv_machine.proofs.table.tables_of.Given as goal

abbrev pub invariant-loop-extent : goal.invariant-loop-extent
invariant-loop-extent l = All (λ table. IsTable l.code (memory_of l.memory) table) l.tables.items

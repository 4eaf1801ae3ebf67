use Rattle.std.proofs.Common.{List, subst}
use Rattle.std.specs.Prelude.{All}
use Rattle.rv_code.specs.declared.extent.Extent.{Extent}
use Rattle.rv_memory.specs.Stretches.{memory_of}
use Rattle.rv_machine.specs.Inner.Decoded.{IsTable}
use Rattle.rv_machine.proofs.loaded.Loaded.new.Goals as goal

pub invariant_of-result : goal.invariant_of-result
invariant_of-result c = (
  c.new.ensures c.args.code.items (memory_of c.args.memory),
  subst (λ (code : List Extent). All (λ table. IsTable code (memory_of c.args.memory) table) c.in_ok-others.others.items) c.deref.ensures.value c.in_ok-others.ensures,
)

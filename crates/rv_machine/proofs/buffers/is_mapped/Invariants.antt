use Rattle.std.proofs.Common.{◌≡◌, ◌^◌, ◌<◌}
use Rattle.rv_memory.specs.Stretches.{memory_of}
use Rattle.rv_memory.specs.Memory.{span, first_hole}
use Rattle.rv_machine.proofs.buffers.is_mapped.Given as goal

abbrev pub invariant-loop-left : goal.invariant-loop-left
invariant-loop-left l = record {
  fits : l.left < 2 ^ 32;
  same : first_hole (memory_of l.memory) (span l.fn.address l.fn.count) ≡ first_hole (memory_of l.memory) (span l.here l.left);
}

abbrev pub decreases-loop-left : goal.decreases-loop-left
decreases-loop-left l = l.left

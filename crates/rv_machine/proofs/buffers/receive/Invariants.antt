use Rattle.std.proofs.Common.{◌≡◌, ◌-◌, length}
use Rattle.rv_memory.specs.Stretches.{memory_of}
use Rattle.rv_memory.specs.Outline.{outline}
use Rattle.rv_machine.proofs.Received.{IsReceived}
use Rattle.rv_machine.proofs.buffers.receive.Given as goal

abbrev pub invariant-loop-got : goal.invariant-loop-got
invariant-loop-got g l = record {
  code : l.loaded.code ≡ l.fn.loaded.code;
  received : IsReceived (g.I.Source.told l.fn.input) (g.I.Source.told l.input) (memory_of l.fn.loaded.memory) (memory_of l.loaded.memory) l.fn.address l.fn.count l.got;
  outline : outline l.loaded.memory.stretches ≡ outline l.fn.loaded.memory.stretches;
  size : length l.piece ≡ 4096;
  same : g.I.Source.faults l.input ≡ g.I.Source.faults l.fn.input;
  rest : g.I.Source.same_rest l.fn.input l.input;
}

abbrev pub decreases-loop-got : goal.decreases-loop-got
decreases-loop-got g l = l.fn.count - l.got

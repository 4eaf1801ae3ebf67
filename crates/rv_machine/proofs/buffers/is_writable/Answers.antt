use Rattle.std.proofs.Common.{is_none, sym, ap, ◌∙◌, arith}
use Rattle.rv_memory.specs.Stretches.{memory_of}
use Rattle.rv_memory.proofs.LawsOfCells.{shut_past, none_shut}
use Rattle.rv_machine.proofs.buffers.is_writable.Goals as goal

pub returns-then-reach-left : goal.returns-then-reach-left
returns-then-reach-left c =
    ap is_none (sym (c.loop-left.invariant.same
    ∙ none_shut (memory_of c.args.memory.now) c.loop-left.here c.loop-left.left c.room_from-reach.result c.if-reach-left.true c.room_from-reach.ensures.free))

pub loop-left-preserved : goal.loop-left-preserved
loop-left-preserved c = record {
  fits = omega arith;
  same = c.loop-left.invariant.same
      ∙ shut_past (memory_of c.args.memory.now) c.loop-left.here c.room_from-reach.result c.loop-left.left (omega arith) (omega arith) c.room_from-reach.ensures.free;
}

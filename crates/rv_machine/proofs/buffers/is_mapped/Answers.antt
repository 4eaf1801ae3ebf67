use Rattle.std.proofs.Common.{is_none, length, sym, ap, ◌∙◌, arith}
use Rattle.rv_memory.specs.Stretches.{memory_of}
use Rattle.rv_memory.proofs.LawsOfCells.{hole_past, no_hole}
use Rattle.rv_machine.proofs.buffers.is_mapped.Goals as goal

pub returns-then-reach-left : goal.returns-then-reach-left
returns-then-reach-left c =
    ap is_none (sym (c.loop-left.invariant.same
    ∙ no_hole (memory_of c.args.memory.now) c.loop-left.here c.loop-left.left (length c.bytes_from-reach.result.now) c.if-reach-left.true c.bytes_from-reach.ensures.mapped))

pub loop-left-preserved : goal.loop-left-preserved
loop-left-preserved c = record {
  fits = omega arith;
  same = c.loop-left.invariant.same
      ∙ hole_past (memory_of c.args.memory.now) c.loop-left.here (length c.bytes_from-reach.result.now) c.loop-left.left (omega arith) (omega arith) c.bytes_from-reach.ensures.mapped;
}

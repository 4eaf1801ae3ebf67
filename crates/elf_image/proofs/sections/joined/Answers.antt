use Rattle.std.proofs.Common.{arith}
use Rattle.elf_image.proofs.Joining.{joining_starts, joining_goes_on}
use Rattle.elf_image.proofs.sections.joined.Goals as goal

pub loop-part-init : goal.loop-part-init
loop-part-init c =
    joining_starts c.args.parts.now c.new-extents.result.items _ (omega arith) c.requires.each c.requires.order c.new-extents.ensures.items

pub loop-part-preserved : goal.loop-part-preserved
loop-part-preserved c =
    joining_goes_on c.args.parts.now _ c.loop-part.extents.items _ c.loop-part.extent c.in_ok-extent.extent c.loop-part.part-index _ c.loop-part-test.true
    c.loop-part.invariant c.in_ok-extent.ensures.joined c.in_ok-extent.ensures.part c.in_ok-extent.ensures.order

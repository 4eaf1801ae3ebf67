use Rattle.std.proofs.Common.{arith}
use Rattle.elf_image.proofs.Counted.{length_more}
use Rattle.elf_image.proofs.sections.word_count.Goals as goal

pub loop-extent-preserved : goal.loop-extent-preserved
loop-extent-preserved c =
    let more = length_more c.args.extents.now c.loop-extent.extent-index (record { start = 0; count = 0 }) c.loop-extent-test.true in
    (omega (arith, more), omega arith)

use Rattle.std.proofs.Common.{◌<◌, sym, ◌∙◌, arith}
use Rattle.elf_image.specs.NoteBytes.{mark_count, is_aligned_at}
use Rattle.elf_image.proofs.EachNumber.{holds_here}
use Rattle.elf_image.proofs.note.originals_are_aligned.Goals as goal

pub loop-number-preserved : goal.loop-number-preserved
loop-number-preserved c =
    let piece = c.args.piece.now in
    let within : c.loop-number.number < mark_count piece = omega (arith, c.loop-number-test.true, c.mark_count-number-end.ensures) in
    c.loop-number.invariant ∙ holds_here (is_aligned_at piece) c.loop-number.number (mark_count piece) within (sym c.if-not-is_aligned_at.ensures)

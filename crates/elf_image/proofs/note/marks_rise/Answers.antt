use Rattle.std.proofs.Common.{◌-◌, ◌<◌, sym, ◌∙◌, arith}
use Rattle.elf_image.specs.NoteBytes.{mark_count, rises_at}
use Rattle.elf_image.proofs.EachNumber.{holds_here}
use Rattle.elf_image.proofs.note.marks_rise.Goals as goal

pub loop-number-preserved : goal.loop-number-preserved
loop-number-preserved c =
    let piece = c.args.piece.now in
    let within : c.loop-number.number < mark_count piece - 1 = omega (arith, c.loop-number-test.true, c.saturating_sub-number-end.ensures, c.mark_count.ensures) in
    c.loop-number.invariant ∙ holds_here (rises_at piece) c.loop-number.number (mark_count piece - 1) within (sym c.if-not-rises_at.ensures)

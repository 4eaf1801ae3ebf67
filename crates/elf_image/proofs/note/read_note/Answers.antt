use Rattle.std.proofs.Common.{◌≡◌, [], map, ap, ◌∙◌, arith}
use Rattle.std.specs.List.{range_with_len}
use Rattle.rv_code.proofs.LawsOfRows.{row_more}
use Rattle.elf_image.specs.NoteBytes.{mark_count, mark_of, note_of}
use Rattle.elf_image.proofs.note.read_note.Goals as goal

pub loop-number-preserved : goal.loop-number-preserved
loop-number-preserved c =
    row_more (mark_of c.args.piece.now) [] c.loop-number.marks.items c.push.new.self.items c.loop-number.number _ c.loop-number.invariant c.in_ok-push.ensures.items c.mark_of.ensures

pub returns : goal.returns
returns c =
    let piece = c.args.piece.now in
    let count : c.mark_count-count.result ≡ mark_count piece = c.mark_count-count.ensures in
    let all : c.loop-number.number ≡ mark_count piece = omega (arith, count, c.loop-number-test.false, c.loop-number.auto.number-end) in
    let marks : c.from_vec.result ≡ (note_of piece).map =
    c.from_vec.ensures ∙ c.loop-number.invariant ∙ ap (λ n. map (mark_of piece) (range_with_len 0 n)) all
    in
    (λ i. record {
      entry = c.word_at.ensures i;
      first = c.word_at-2.ensures i;
      count = c.word_at-3.ensures i;
      buffer = c.word_at-4.ensures i;
      used = c.word_at-5.ensures i;
      map = marks i;
    })

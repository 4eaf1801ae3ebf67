-- One place more, whether or not it is marked.
use Rattle.std.proofs.Common.{◌<◌, length, get_or, ◌∙◌, arith}
use Rattle.std.proofs.lemmas.Option.{slice_get-get_or}
use Rattle.rv_code.specs.Code.{extents_of}
use Rattle.rv_code.specs.Places.{code_addresses}
use Rattle.rv_code.proofs.LawsOfPlaces.{length-code_addresses_of_ranges}
use Rattle.reach_slice.proofs.Kept.{marked_more, unmarked_more, marked_all}
use Rattle.reach_slice.proofs.marked.marked_words.Goals as goal
use Rattle.reach_slice.proofs.marked.marked_words.Goals.{then-marks-place+in_ok-push, else-marks-place}

pub loop-place-preserved : goal.loop-place-preserved
loop-place-preserved c = elim c.if-marks-place.branch [
  | then-marks-place+in_ok-push w ↦
      marked_more c.args.ranges.now c.args.marks.now c.loop-place.place w.address_at.result c.loop-place.words.items c.if-marks-place.words.items c.requires.order.rise
      w.address_at.ensures w.if-marks-place.true c.loop-place.invariant ((λ i. (w.words-is i).items) ∙ w.in_ok-push.ensures.items)
  | else-marks-place w ↦
      let inside : c.loop-place.place < length (code_addresses (extents_of c.args.ranges.now)) =
      omega (arith, c.loop-place-test.true, c.count_in-place-end.ensures, length-code_addresses_of_ranges c.args.ranges.now)
      in
      (λ i. (w.words-is i).items)
      ∙ unmarked_more c.args.ranges.now c.args.marks.now c.loop-place.place (get_or (code_addresses (extents_of c.args.ranges.now)) c.loop-place.place 0) c.loop-place.words.items
      c.requires.order.rise (slice_get-get_or (code_addresses (extents_of c.args.ranges.now)) c.loop-place.place 0 inside) w.if-marks-place.false c.loop-place.invariant
]

pub returns : goal.returns
returns c =
    marked_all c.args.ranges.now c.args.marks.now c.loop-place.place c.loop-place.words.items (omega (arith, c.loop-place-test.false, c.count_in-place-end.ensures)) c.loop-place.invariant

use Rattle.std.proofs.Common.{◌+◌, Ok, refl, arith}
use Rattle.ae_print.specs.ElfText.{segment_line}
use Rattle.ae_nums.proofs.LawsOfWriters.{Puts-none, Puts-both, Puts-front, Puts-same}
use Rattle.ae_print.proofs.Rows.{lines_before, lines_behind, one_more, all_before, before_behind}
use Rattle.ae_print.proofs.elf.write_segments.Goals as goal

pub returns-in_err-write_segment : goal.returns-in_err-write_segment
returns-in_err-write_segment g c =
    let items = c.args.segments.now in
    let place = c.loop-place.place in
    let both = Puts-both g.met.K.Sink.rest_joins _ _ _ (lines_before segment_line items place) _ _ _ (Ok tt) _ c.loop-place.invariant refl c.write_segment.ensures refl in
    let front = Puts-front _ _ (lines_before segment_line items (place + 1)) (lines_behind segment_line items (place + 1)) _ _ c.from_residual.result
    c.in_err-write_segment.ensures.broken both (one_more segment_line items place _ c.loop-place-test.true) in
    Puts-same _ _ _ _ _ front (before_behind segment_line items (place + 1))

pub loop-place-preserved : goal.loop-place-preserved
loop-place-preserved g c =
    let items = c.args.segments.now in
    let place = c.loop-place.place in
    let both = Puts-both g.met.K.Sink.rest_joins _ _ _ (lines_before segment_line items place) _ _ _ (Ok tt) (Ok tt) c.loop-place.invariant refl c.in_ok-write_segment.ensures refl in
    Puts-same _ _ _ _ (Ok tt) both (one_more segment_line items place _ c.loop-place-test.true)

pub returns : goal.returns
returns g c = Puts-same _ _ _ _ _ c.loop-place.invariant (all_before segment_line c.args.segments.now c.loop-place.place (omega arith))

pub loop-place-init : goal.loop-place-init
loop-place-init g c = Puts-none _ (g.met.K.Sink.rest_stays _)

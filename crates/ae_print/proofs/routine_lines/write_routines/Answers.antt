use Rattle.std.proofs.Common.{◌≡◌, ◌+◌, get_or, Ok, refl, ap, arith}
use Rattle.std.proofs.lemmas.Option.{slice_get-get_or}
use Rattle.rv_code.specs.declared.image.Name.{Name}
use Rattle.ae_print.specs.GraphText.{routine_line}
use Rattle.ae_nums.proofs.LawsOfWriters.{Puts-none, Puts-both, Puts-front, Puts-same}
use Rattle.ae_print.proofs.Joined.{texts_before, texts_behind, one_more_text, texts_split}
use Rattle.ae_print.proofs.routine_lines.write_routines.Goals as goal

pub returns-in_err-write_routine : goal.returns-in_err-write_routine
returns-in_err-write_routine g c =
    let items = c.args.graph.now.routines in
    let number = c.loop-number.number in
    let name : Name = record { address = c.routine_at-address.result.1; text = c.routine_at-address.result.0.now } in
    let here : name ≡ get_or items number name = cc (c.routine_at-address.ensures, slice_get-get_or items number name (omega arith)) in
    let both = Puts-both g.met.K.Sink.rest_joins _ _ _ (texts_before routine_line items number) (routine_line (get_or items number name)) _ _ (Ok tt) _
    c.loop-number.invariant refl c.write_routine.ensures (ap routine_line here) in
    let front = Puts-front _ _ (texts_before routine_line items (number + 1)) (texts_behind routine_line items (number + 1)) _ _ c.from_residual.result
    c.in_err-write_routine.ensures.broken both (one_more_text routine_line items number name (omega arith)) in
    Puts-same _ _ _ _ _ front (texts_split routine_line items (number + 1))

pub loop-number-preserved : goal.loop-number-preserved
loop-number-preserved g c =
    let items = c.args.graph.now.routines in
    let number = c.loop-number.number in
    let name : Name = record { address = c.routine_at-address.result.1; text = c.routine_at-address.result.0.now } in
    let here : name ≡ get_or items number name = cc (c.routine_at-address.ensures, slice_get-get_or items number name (omega arith)) in
    let both = Puts-both g.met.K.Sink.rest_joins _ _ _ (texts_before routine_line items number) (routine_line (get_or items number name)) _ _ (Ok tt) (Ok tt)
    c.loop-number.invariant refl c.in_ok-write_routine.ensures (ap routine_line here) in
    Puts-same _ _ _ _ (Ok tt) both (one_more_text routine_line items number name (omega arith))

pub loop-number-init : goal.loop-number-init
loop-number-init g c = Puts-none _ (g.met.K.Sink.rest_stays _)

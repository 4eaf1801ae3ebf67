use Rattle.std.proofs.Common.{◌+◌, Ok, refl}
use Rattle.schema_form.specs.Spelling.{stretch_bytes}
use Rattle.ae_nums.proofs.LawsOfWriters.{Puts-none, Puts-both, Puts-front, Puts-same}
use Rattle.schema_form.proofs.Pieces.{bytes_before, bytes_behind, one_item_more, all_items, items_split}
use Rattle.schema_form.proofs.writing.write_stretches.Goals as goal

pub returns-in_err-write : goal.returns-in_err-write
returns-in_err-write g c =
    let items = c.args.stretches.now in
    let index = c.loop-stretch.stretch-index in
    let both = Puts-both g.met.K.Sink.rest_joins _ _ _ (bytes_before stretch_bytes items index) _ _ _ (Ok tt) _
    c.loop-stretch.invariant refl c.write.ensures.puts c.stretch_bytes.ensures in
    let front = Puts-front _ _ (bytes_before stretch_bytes items (index + 1)) (bytes_behind stretch_bytes items (index + 1)) _ _ c.from_residual.result
    c.in_err-write.ensures.puts.broken both (one_item_more stretch_bytes items index _ c.loop-stretch-test.true) in
    Puts-same _ _ _ _ _ front (items_split stretch_bytes items (index + 1))

pub loop-stretch-preserved : goal.loop-stretch-preserved
loop-stretch-preserved g c =
    let items = c.args.stretches.now in
    let index = c.loop-stretch.stretch-index in
    let both = Puts-both g.met.K.Sink.rest_joins _ _ _ (bytes_before stretch_bytes items index) _ _ _ (Ok tt) (Ok tt)
    c.loop-stretch.invariant refl c.in_ok-write.ensures.puts c.stretch_bytes.ensures in
    Puts-same _ _ _ _ (Ok tt) both (one_item_more stretch_bytes items index _ c.loop-stretch-test.true)

pub returns : goal.returns
returns g c = Puts-same _ _ _ _ _ c.loop-stretch.invariant (all_items stretch_bytes c.args.stretches.now c.loop-stretch.stretch-index c.loop-stretch-test.false)

pub loop-stretch-init : goal.loop-stretch-init
loop-stretch-init g c = Puts-none _ (g.met.K.Sink.rest_stays _)

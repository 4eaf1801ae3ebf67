use Rattle.std.proofs.Common.{◌≡◌, ℕ, [], get_or, arith, take}
use Rattle.std.proofs.lemmas.List.{get_or_default}
use Rattle.rv_code.proofs.LawsOfRows.{row_more}
use Rattle.rv_code.specs.declared.extent.Extent.{Extent}
use Rattle.schema_form.specs.Layout.{words_total}
use Rattle.schema_form.proofs.LookedUp.{total_more}
use Rattle.schema_form.proofs.stretches.words_before.Goals as goal

pub loop-stretch-preserved : goal.loop-stretch-preserved
loop-stretch-preserved c =
    let items = c.args.stretches.now in
    let index : ℕ = c.loop-stretch.stretch-index in
    let none : Extent = record { start = 0; count = 0 } in
    let item : Extent = get_or items index none in
    let within = c.loop-stretch-test.true in
    let is : item ≡ get_or items index item = get_or_default items index none item within in
    let more = total_more items index item within is in
    record {
      total = omega (arith, more, c.loop-stretch.invariant.total);
      before =
          row_more (λ number. words_total (take number items)) [] c.loop-stretch.before.items c.push.new.self.items index _
          c.loop-stretch.invariant.before c.in_ok-push.ensures.items c.loop-stretch.invariant.total;
    }

use Rattle.std.proofs.Common.{◌≡◌, ℕ, get_or, sym, ◌∙◌, arith}
use Rattle.std.proofs.lemmas.List.{get_or_default}
use Rattle.rv_code.specs.declared.extent.Extent.{Extent}
use Rattle.schema_form.proofs.LookedUp.{address_here, address_later}
use Rattle.schema_form.proofs.stretches.address_of.Goals as goal

pub returns-then-left-stretch : goal.returns-then-left-stretch
returns-then-left-stretch c =
    let items = c.args.stretches.now in
    let index : ℕ = c.loop-stretch.stretch-index in
    let none : Extent = record { start = 0; count = 0 } in
    let item : Extent = get_or items index none in
    let within = c.loop-stretch-test.true in
    let is : item ≡ get_or items index item = get_or_default items index none item within in
    sym (c.loop-stretch.invariant ∙ address_here items index item within is c.loop-stretch.left c.if-left-stretch.true)

pub loop-stretch-preserved : goal.loop-stretch-preserved
loop-stretch-preserved c =
    let items = c.args.stretches.now in
    let index : ℕ = c.loop-stretch.stretch-index in
    let none : Extent = record { start = 0; count = 0 } in
    let item : Extent = get_or items index none in
    let within = c.loop-stretch-test.true in
    let is : item ≡ get_or items index item = get_or_default items index none item within in
    c.loop-stretch.invariant ∙ address_later items index item within is c.loop-stretch.left (omega arith)

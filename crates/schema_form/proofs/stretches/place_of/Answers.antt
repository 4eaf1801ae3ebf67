use Rattle.std.proofs.Common.{◌≡◌, ℕ, ◌+◌, get_or, sym, ap, ◌∙◌, arith}
use Rattle.std.specs.Option.{option_map}
use Rattle.std.proofs.lemmas.List.{get_or_default}
use Rattle.rv_code.specs.declared.extent.Extent.{Extent}
use Rattle.rv_code.proofs.LawsOfLookUps.{option_map-sum}
use Rattle.schema_form.proofs.LookedUp.{total_more, place_here, place_later, aligned_at}
use Rattle.schema_form.proofs.stretches.place_of.Goals as goal

pub returns-then-has_word-clause-place : goal.returns-then-has_word-clause-place
returns-then-has_word-clause-place c =
    let items = c.args.stretches.now in
    let index : ℕ = c.loop-stretch.stretch-index in
    let none : Extent = record { start = 0; count = 0 } in
    let item : Extent = get_or items index none in
    let within = c.loop-stretch-test.true in
    let is : item ≡ get_or items index item = get_or_default items index none item within in
    let aligned = aligned_at items index item within is c.requires in
    sym (c.loop-stretch.invariant.place
    ∙ ap (option_map (λ place. c.loop-stretch.before + place)) (place_here items index item within is c.args.address aligned (sym c.has_word.ensures ∙ c.if-has_word.true)))

pub loop-stretch-preserved : goal.loop-stretch-preserved
loop-stretch-preserved c =
    let items = c.args.stretches.now in
    let index : ℕ = c.loop-stretch.stretch-index in
    let none : Extent = record { start = 0; count = 0 } in
    let item : Extent = get_or items index none in
    let within = c.loop-stretch-test.true in
    let is : item ≡ get_or items index item = get_or_default items index none item within in
    let aligned = aligned_at items index item within is c.requires in
    let more = total_more items index item within is in
    record {
      counted = omega (arith, more, c.loop-stretch.invariant.counted);
      place =
          c.loop-stretch.invariant.place
          ∙ ap (option_map (λ place. c.loop-stretch.before + place)) (place_later items index item within is c.args.address aligned (sym c.has_word.ensures ∙ c.if-has_word.false))
          ∙ option_map-sum c.loop-stretch.before item.count (c.loop-stretch.before + item.count) _ (omega arith);
    }

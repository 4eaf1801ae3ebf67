use Rattle.std.proofs.Common.{◌≡◌, ℕ, ◌+◌, ◌-◌, ◌/◌, ◌<◌, false, Some, get_or, length, sym, ap, ◌∙◌, arith}
use Rattle.std.proofs.lemmas.List.{get_or_default}
use Rattle.rv_code.specs.declared.extent.Extent.{Extent}
use Rattle.rv_code.specs.Code.{is_word_of}
use Rattle.schema_form.proofs.Begun.{before_at, before_length, no_place, place_there, place_within}
use Rattle.schema_form.proofs.stretches.place_by.Goals as goal

pub returns-then-begun-eq0-clause-place : goal.returns-then-begun-eq0-clause-place
returns-then-begun-eq0-clause-place c =
    let begun = c.begun_by-begun in
    sym (no_place c.args.stretches.now c.args.address c.requires.stretches begun.result begun.ensures.count begun.ensures.begun (λ number d is. absurd (omega (arith, c.if-begun-eq0.true))))

pub bounds-before-begun : goal.bounds-before-begun
bounds-before-begun c = omega (arith, before_length c.args.stretches.now c.args.before.now c.requires.before, c.if-begun-eq0.false, c.begun_by-begun.ensures.count)

pub returns-then-has_word-clause-place : goal.returns-then-has_word-clause-place
returns-then-has_word-clause-place c =
    let items = c.args.stretches.now in
    let index : ℕ = c.begun_by-begun.result - 1 in
    let none : Extent = record { start = 0; count = 0 } in
    let item : Extent = get_or items index none in
    let within : index < length items = omega (arith, c.if-begun-eq0.false, c.begun_by-begun.ensures.count) in
    let is : item ≡ get_or items index item = get_or_default items index none item within in
    let found = place_there items c.args.address c.requires.stretches index item within is (sym c.has_word.ensures ∙ c.if-has_word.true) in
    ap (λ n. Some (n + (c.args.address - item.start) / 4)) (before_at items c.args.before.now c.requires.before index 0 within) ∙ sym found

pub returns-then-has_word-clause-below : goal.returns-then-has_word-clause-below
returns-then-has_word-clause-below c =
    let items = c.args.stretches.now in
    let index : ℕ = c.begun_by-begun.result - 1 in
    let none : Extent = record { start = 0; count = 0 } in
    let item : Extent = get_or items index none in
    let within : index < length items = omega (arith, c.if-begun-eq0.false, c.begun_by-begun.ensures.count) in
    let is : item ≡ get_or items index item = get_or_default items index none item within in
    let below = place_within items c.args.address c.requires.stretches index item within is (sym c.has_word.ensures ∙ c.if-has_word.true) in
    omega (arith, below, before_at items c.args.before.now c.requires.before index 0 within)

pub overflow_add-result : goal.overflow_add-result
overflow_add-result c =
    let items = c.args.stretches.now in
    let index : ℕ = c.begun_by-begun.result - 1 in
    let none : Extent = record { start = 0; count = 0 } in
    let item : Extent = get_or items index none in
    let within : index < length items = omega (arith, c.if-begun-eq0.false, c.begun_by-begun.ensures.count) in
    let is : item ≡ get_or items index item = get_or_default items index none item within in
    let below = place_within items c.args.address c.requires.stretches index item within is (sym c.has_word.ensures ∙ c.if-has_word.true) in
    omega (arith, below, before_at items c.args.before.now c.requires.before index 0 within, c.requires.stretches.few)

pub returns-else-has_word-clause-place : goal.returns-else-has_word-clause-place
returns-else-has_word-clause-place c =
    let items = c.args.stretches.now in
    let begun = c.begun_by-begun in
    let index : ℕ = begun.result - 1 in
    let none : Extent = record { start = 0; count = 0 } in
    let within : index < length items = omega (arith, c.if-begun-eq0.false, begun.ensures.count) in
    let elsewhere : is_word_of (get_or items index none) c.args.address ≡ false = sym c.has_word.ensures ∙ c.if-has_word.false in
    let last : (number : ℕ) (d : Extent) → number + 1 ≡ begun.result → is_word_of (get_or items number d) c.args.address ≡ false =
    λ number d is.
    let same : number ≡ index = omega (arith, is) in
    ap (λ n. is_word_of (get_or items n d) c.args.address) same
    ∙ ap (λ (s : Extent). is_word_of s c.args.address) (sym (get_or_default items index none d within)) ∙ elsewhere
    in
    sym (no_place items c.args.address c.requires.stretches begun.result begun.ensures.count begun.ensures.begun last)

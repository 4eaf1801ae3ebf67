use Rattle.std.proofs.Common.{◌≡◌, ℕ, ◌-◌, ◌≤◌, List, Ok, length, drop, sym, ap, ◌∙◌, arith, length-drop}
use Rattle.std.proofs.lemmas.List.{get_or_read}
use Rattle.rv_memory.specs.Stretches.{MappedStretch, stack}
use Rattle.rv_memory.specs.Inner.Places.{stretch_at}
use Rattle.rv_memory.proofs.Near.{ends_within, has_place}
use Rattle.rv_memory.proofs.ReadBytes.{AreBehind, are_behind, read_rest}
use Rattle.rv_memory.proofs.reading.fetch.Goals as goal

pub place_for-requires-clause-within : goal.place_for-requires-clause-within
place_for-requires-clause-within c =
    let stretches = c.args.stretches.now in
    ends_within stretches c.args.near.now c.index-stretches-first.result c.requires.order c.if-first-stretches.true
    (get_or_read stretches c.args.near.now c.index-stretches-first.result c.if-first-stretches.true c.index-stretches-first.is stack)

pub returns-clause-answer : goal.returns-clause-answer
returns-clause-answer c =
    let stretches = c.args.stretches.now in
    let near = c.args.near.now in
    let stretch : MappedStretch = c.index-stretches-first.result in
    let again : MappedStretch = c.index-stretches-first-2.result in
    let found : stretch ≡ stretch_at stretches near = get_or_read stretches near stretch c.if-first-stretches.true c.index-stretches-first.is stack in
    let found_again : again ≡ stretch_at stretches near = get_or_read stretches near again c.if-first-stretches.true c.index-stretches-first-2.is stack in
    let start : again.start ≡ stretch.start = ap (λ (b : MappedStretch). b.start) (found_again ∙ sym found) in
    let rest = c.from_place.result.now in
    let offset : c.in-Some.place ≡ c.args.address - again.start = omega (arith, start, c.in-Some.ensures.0) in
    let enough : c.args.size ≤ length rest =
    omega (arith, c.in-Some.ensures.1, ap (λ (xs : List ℕ). length xs) c.from_place.ensures, length-drop c.in-Some.place again.bytes, ap (λ (b : MappedStretch). length b.bytes) (found_again ∙ sym found)) in
    let behind : AreBehind stretches c.args.address rest =
    are_behind stretches near c.args.address again rest c.requires.order
    (has_place stretches near stretch c.args.address c.in-Some.place c.args.size c.if-first-stretches.true found (omega (arith, c.requires.size)) c.in-Some.ensures.0 c.in-Some.ensures.1)
    found_again (c.from_place.ensures ∙ ap (λ n. drop n again.bytes) offset) in
    ap Ok c.number_from.ensures.number ∙ sym (read_rest stretches c.args.address c.args.size rest enough behind.bytes behind.mapped)

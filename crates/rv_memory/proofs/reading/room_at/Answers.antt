use Rattle.std.proofs.Common.{◌≡◌, ◌+◌, ◌-◌, ◌≤◌, true, length, drop, refl, sym, ap, ◌∙◌, arith, length-drop}
use Rattle.std.proofs.lemmas.List.{get_or_read}
use Rattle.rv_memory.specs.Stretches.{MappedStretch, stack}
use Rattle.rv_memory.specs.Outline.{stretch_end}
use Rattle.rv_memory.specs.Inner.Places.{stretch_at}
use Rattle.rv_memory.proofs.ReadBytes.{AreBehind, are_behind, writable_is, not_writable}
use Rattle.rv_memory.proofs.WrittenBytes.{all_open}
use Rattle.rv_memory.proofs.reading.room_at.Goals as goal

pub returns-in-Some-clause-free : goal.returns-in-Some-clause-free
returns-in-Some-clause-free c =
    let stretches = c.args.stretches.now in
    let place = c.in-Some.place in
    let found : c.index-stretches-place.result ≡ stretch_at stretches place = get_or_read stretches place c.index-stretches-place.result c.in-Some.ensures.inside c.index-stretches-place.is stack in
    let found_again : c.index-stretches-place-in-Some.result ≡ stretch_at stretches place = get_or_read stretches place c.index-stretches-place-in-Some.result c.in-Some.ensures.inside c.index-stretches-place-in-Some.is stack in
    let free : (stretch_at stretches place).writable ≡ true = sym (ap (λ (b : MappedStretch). b.writable) found) ∙ sym c.if-is_writable.ensures in
    let within : c.args.address + (c.len.result - (c.args.address - c.start.result)) ≤ stretch_end (stretch_at stretches place) =
    omega (arith, c.len.ensures, c.start.ensures, c.in-Some.ensures.above, c.in-Some.ensures.below, ap (λ (b : MappedStretch). b.start) found_again, ap (λ (b : MappedStretch). length b.bytes) found_again) in
    all_open stretches place c.args.address (c.len.result - (c.args.address - c.start.result)) c.requires (λ _. c.in-Some.ensures) within c.in-Some.ensures.inside free

pub returns-in_default-clause-none : goal.returns-in_default-clause-none
returns-in_default-clause-none c =
    let stretches = c.args.stretches.now in
    let place = c.in-Some.place in
    let found : c.index-stretches-place.result ≡ stretch_at stretches place = get_or_read stretches place c.index-stretches-place.result c.in-Some.ensures.inside c.index-stretches-place.is stack in
    λ _. sym (writable_is stretches place c.args.address c.requires c.in-Some.ensures) ∙ (sym (ap (λ (b : MappedStretch). b.writable) found) ∙ sym c.if-is_writable.ensures)

pub returns-in_default-2-clause-none : goal.returns-in_default-2-clause-none
returns-in_default-2-clause-none c = λ _. sym (not_writable c.args.stretches.now c.args.address c.in_default.ensures)

pub returns-in-Some-clause-to_the_end : goal.returns-in-Some-clause-to_the_end
returns-in-Some-clause-to_the_end c = λ free.
    let stretches = c.args.stretches.now in
    let place = c.in-Some.place in
    let stretch = c.index-stretches-place-in-Some.result in
    let found : stretch ≡ stretch_at stretches place = get_or_read stretches place stretch c.in-Some.ensures.inside c.index-stretches-place-in-Some.is stack in
    let behind : AreBehind stretches c.args.address (drop (c.args.address - stretch.start) stretch.bytes) =
    are_behind stretches place c.args.address stretch (drop (c.args.address - stretch.start) stretch.bytes) c.requires c.in-Some.ensures found refl in
    omega (arith, c.len.ensures, c.start.ensures, length-drop (c.args.address - stretch.start) stretch.bytes, ap length behind.to_the_end)

pub returns-in_default-clause-to_the_end : goal.returns-in_default-clause-to_the_end
returns-in_default-clause-to_the_end c = λ free.
    let shut = returns-in_default-clause-none c refl in
    absurd (cc (sym free ∙ shut))

pub returns-in_default-2-clause-to_the_end : goal.returns-in_default-2-clause-to_the_end
returns-in_default-2-clause-to_the_end c = λ free.
    let shut = returns-in_default-2-clause-none c refl in
    absurd (cc (sym free ∙ shut))

use Rattle.std.proofs.Common.{◌≡◌, ◌+◌, ◌-◌, ◌≤◌, false, length, drop, refl, sym, ap, ◌∙◌, arith, length-drop}
use Rattle.std.proofs.lemmas.List.{get_or_read}
use Rattle.rv_memory.specs.Stretches.{MappedStretch, stack}
use Rattle.rv_memory.specs.Outline.{stretch_end}
use Rattle.rv_memory.specs.Inner.Places.{stretch_at}
use Rattle.rv_memory.proofs.Near.{all_fixed}
use Rattle.rv_memory.proofs.ReadBytes.{AreBehind, are_behind, behind_none, writable_is}
use Rattle.rv_memory.proofs.reading.fixed_at.Goals as goal

pub returns-in-Some-clause-fixed : goal.returns-in-Some-clause-fixed
returns-in-Some-clause-fixed c =
    let stretches = c.args.stretches.now in
    let place = c.in-Some.place in
    let found : c.index-stretches-place.result ≡ stretch_at stretches place = get_or_read stretches place c.index-stretches-place.result c.in-Some.ensures.inside c.index-stretches-place.is stack in
    let found_again : c.index-stretches-place-in-Some.result ≡ stretch_at stretches place = get_or_read stretches place c.index-stretches-place-in-Some.result c.in-Some.ensures.inside c.index-stretches-place-in-Some.is stack in
    let fixed : (stretch_at stretches place).writable ≡ false = sym (ap (λ (b : MappedStretch). b.writable) found) ∙ (sym c.is_writable.ensures ∙ c.if-not-is_writable.true) in
    let within : c.args.address + (c.len.result - (c.args.address - c.start.result)) ≤ stretch_end (stretch_at stretches place) =
    omega (arith, c.len.ensures, c.start.ensures, c.in-Some.ensures.above, c.in-Some.ensures.below, ap (λ (b : MappedStretch). b.start) found_again, ap (λ (b : MappedStretch). length b.bytes) found_again) in
    all_fixed stretches place c.args.address (c.len.result - (c.args.address - c.start.result)) c.requires (λ _. c.in-Some.ensures) within c.in-Some.ensures.inside fixed

pub returns-in-Some-clause-to_the_end : goal.returns-in-Some-clause-to_the_end
returns-in-Some-clause-to_the_end c = λ fixed.
    let stretches = c.args.stretches.now in
    let place = c.in-Some.place in
    let stretch = c.index-stretches-place-in-Some.result in
    let found : stretch ≡ stretch_at stretches place = get_or_read stretches place stretch c.in-Some.ensures.inside c.index-stretches-place-in-Some.is stack in
    let behind : AreBehind stretches c.args.address (drop (c.args.address - stretch.start) stretch.bytes) =
    are_behind stretches place c.args.address stretch (drop (c.args.address - stretch.start) stretch.bytes) c.requires c.in-Some.ensures found refl in
    omega (arith, c.len.ensures, c.start.ensures, length-drop (c.args.address - stretch.start) stretch.bytes, ap length behind.to_the_end)

pub returns-in_default-clause-to_the_end : goal.returns-in_default-clause-to_the_end
returns-in_default-clause-to_the_end c = λ fixed.
    let stretches = c.args.stretches.now in
    let place = c.in-Some.place in
    let found : c.index-stretches-place.result ≡ stretch_at stretches place = get_or_read stretches place c.index-stretches-place.result c.in-Some.ensures.inside c.index-stretches-place.is stack in
    let free = sym (writable_is stretches place c.args.address c.requires c.in-Some.ensures) ∙ (sym (ap (λ (b : MappedStretch). b.writable) found) ∙ (sym c.is_writable.ensures ∙ c.if-not-is_writable.false)) in
    absurd (cc (sym fixed ∙ free))

pub returns-in_default-2-clause-to_the_end : goal.returns-in_default-2-clause-to_the_end
returns-in_default-2-clause-to_the_end c = λ fixed. ap length (sym (behind_none c.args.stretches.now c.args.address c.in_default.ensures.missed))

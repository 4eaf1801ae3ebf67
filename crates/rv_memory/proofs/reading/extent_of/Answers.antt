use Rattle.std.proofs.Common.{◌≡◌, ◌<◌, length, Some, sym, ap, ◌∙◌, arith}
use Rattle.std.proofs.lemmas.List.{get_or_read}
use Rattle.rv_memory.specs.Stretches.{MappedStretch, stack}
use Rattle.rv_memory.specs.Inner.Places.{stretch_at}
use Rattle.rv_memory.proofs.Order.{stretch_is}
use Rattle.rv_memory.proofs.ReadBytes.{region_of, no_region}
use Rattle.rv_memory.proofs.reading.extent_of.Goals as goal

pub overflow_cast-result : goal.overflow_cast-result
overflow_cast-result c =
    let stretches = c.args.stretches.now in
    let inside : c.args.number < length stretches = omega arith in
    let found : c.index-stretches-place.result ≡ stretch_at stretches c.args.number = get_or_read stretches c.args.number c.index-stretches-place.result inside c.index-stretches-place.is stack in
    omega (arith, c.len.ensures, ap (λ (b : MappedStretch). length b.bytes) found, (stretch_is 0 stretches c.args.number c.requires.rise inside).part)

pub returns-then-place-stretches : goal.returns-then-place-stretches
returns-then-place-stretches c =
    let stretches = c.args.stretches.now in
    let inside : c.args.number < length stretches = omega arith in
    let found : c.index-stretches-place.result ≡ stretch_at stretches c.args.number = get_or_read stretches c.args.number c.index-stretches-place.result inside c.index-stretches-place.is stack in
    ap (λ n. Some (n, c.len.result)) c.start.ensures
    ∙ (ap (λ n. Some (c.index-stretches-place.result.start, n)) c.len.ensures
    ∙ (ap (λ (b : MappedStretch). Some (b.start, length b.bytes)) found ∙ sym (region_of stretches c.args.number inside)))

pub returns-else-place-stretches : goal.returns-else-place-stretches
returns-else-place-stretches c = sym (no_region c.args.stretches.now c.args.number (omega arith))

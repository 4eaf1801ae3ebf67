use Rattle.std.proofs.Common.{◌≡◌, ap, ◌∙◌}
use Rattle.std.proofs.lemmas.List.{get_or_read}
use Rattle.rv_memory.specs.Stretches.{MappedStretch, stack}
use Rattle.rv_memory.specs.Inner.Places.{stretch_at}
use Rattle.rv_memory.proofs.ReadBytes.{writable_is, not_writable}
use Rattle.rv_memory.proofs.reading.writable_at.Goals as goal

pub returns-in-Some : goal.returns-in-Some
returns-in-Some c =
    let stretches = c.args.stretches.now in
    let found : c.index-stretches-place.result ≡ stretch_at stretches c.in-Some.place = get_or_read stretches c.in-Some.place c.index-stretches-place.result c.in-Some.ensures.inside c.index-stretches-place.is stack in
    c.is_writable.ensures ∙ (ap (λ (b : MappedStretch). b.writable) found ∙ writable_is stretches c.in-Some.place c.args.address c.requires c.in-Some.ensures)

pub returns-in-None : goal.returns-in-None
returns-in-None c = not_writable c.args.stretches.now c.args.address c.in-None.ensures

use Rattle.std.proofs.Common.{◌≡◌, ◌-◌, get_or, sym, ap, ◌∙◌}
use Rattle.std.proofs.lemmas.List.{get_or_read}
use Rattle.rv_memory.specs.Stretches.{MappedStretch, stack}
use Rattle.rv_memory.specs.Memory.{byte_of_cell}
use Rattle.rv_memory.specs.Inner.Places.{stretch_at}
use Rattle.rv_memory.proofs.Order.{nowhere, cell_of}
use Rattle.rv_memory.proofs.reading.byte_or_zero.Goals as goal

pub returns-in-Some : goal.returns-in-Some
returns-in-Some c =
    let stretches = c.args.stretches.now in
    let place = c.in-Some.place in
    let found : c.index-stretches-place.result ≡ stretch_at stretches place = get_or_read stretches place c.index-stretches-place.result c.in-Some.ensures.inside c.index-stretches-place.is stack in
    c.byte.ensures ∙ (ap (λ n. get_or c.index-stretches-place.result.bytes (c.args.address - n) 0) c.start.ensures
    ∙ (ap (λ (b : MappedStretch). get_or b.bytes (c.args.address - b.start) 0) found
    ∙ sym (ap byte_of_cell (cell_of 0 stretches place c.args.address c.requires.rise c.in-Some.ensures))))

pub returns-in-None : goal.returns-in-None
returns-in-None c = sym (ap byte_of_cell (nowhere c.args.stretches.now c.args.address c.in-None.ensures.missed))

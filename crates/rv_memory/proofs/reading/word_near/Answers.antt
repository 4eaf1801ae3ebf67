use Rattle.std.proofs.Common.{◌≡◌, ◌-◌, drop, ap, ◌∙◌}
use Rattle.std.proofs.lemmas.List.{get_or_read}
use Rattle.rv_memory.specs.Stretches.{stack, cells_in}
use Rattle.rv_memory.specs.Inner.Places.{stretch_at}
use Rattle.rv_memory.proofs.ReadBytes.{AreBehind, are_behind}
use Rattle.rv_memory.proofs.RunBytes.{word_of}
use Rattle.rv_memory.proofs.reading.word_near.Goals as goal

pub returns-then-bytes-ge4 : goal.returns-then-bytes-ge4
returns-then-bytes-ge4 c =
    let stretches = c.args.stretches.now in
    let rest = c.from_place-bytes.result.now in
    let found : c.index-stretches-place.result ≡ stretch_at stretches c.in-Some.place = get_or_read stretches c.in-Some.place c.index-stretches-place.result c.in-Some.ensures.inside c.index-stretches-place.is stack in
    let behind : AreBehind stretches c.args.address rest =
    are_behind stretches c.in-Some.place c.args.address c.index-stretches-place.result rest c.requires c.in-Some.ensures found
    (c.from_place-bytes.ensures ∙ ap (λ n. drop (c.args.address - n) c.index-stretches-place.result.bytes) c.start.ensures) in
    c.number_from.ensures.number ∙ word_of (cells_in stretches) c.args.address rest c.if-bytes-ge4.true behind.bytes

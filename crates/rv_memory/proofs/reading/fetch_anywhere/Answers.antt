use Rattle.std.proofs.Common.{◌≡◌, ◌-◌, Ok, drop, sym, ap, ◌∙◌}
use Rattle.std.proofs.lemmas.List.{get_or_read}
use Rattle.rv_memory.specs.Stretches.{stack}
use Rattle.rv_memory.specs.Inner.Places.{stretch_at}
use Rattle.rv_memory.proofs.ReadBytes.{AreBehind, are_behind, read_rest}
use Rattle.rv_memory.proofs.reading.fetch_anywhere.Goals as goal

pub returns-then-bytes-size-clause-answer : goal.returns-then-bytes-size-clause-answer
returns-then-bytes-size-clause-answer c =
    let stretches = c.args.stretches.now in
    let rest = c.from_place-bytes.result.now in
    let found : c.index-stretches-place.result ≡ stretch_at stretches c.in-Some.place = get_or_read stretches c.in-Some.place c.index-stretches-place.result c.in-Some.ensures.inside c.index-stretches-place.is stack in
    let behind : AreBehind stretches c.args.address rest =
    are_behind stretches c.in-Some.place c.args.address c.index-stretches-place.result rest c.requires.order c.in-Some.ensures found
    (c.from_place-bytes.ensures ∙ ap (λ n. drop (c.args.address - n) c.index-stretches-place.result.bytes) c.start.ensures) in
    ap Ok c.number_from.ensures.number ∙ sym (read_rest stretches c.args.address c.args.size rest c.if-bytes-size.true behind.bytes behind.mapped)

use Rattle.std.proofs.Common.{◌≡◌, ◌-◌, Option, drop, sym, ap, ◌∙◌}
use Rattle.std.specs.Prelude.{is_some}
use Rattle.std.proofs.lemmas.List.{get_or_read}
use Rattle.rv_memory.specs.Stretches.{stack}
use Rattle.rv_memory.specs.Memory.{Cell}
use Rattle.rv_memory.specs.Inner.Places.{stretch_at}
use Rattle.rv_memory.proofs.Order.{nowhere}
use Rattle.rv_memory.proofs.ReadBytes.{AreBehind, are_behind, behind_none}
use Rattle.rv_memory.proofs.reading.rest_from.Goals as goal

behind : (c : goal.After-from_place) → AreBehind c.args.stretches.now c.args.address c.from_place.result.now
behind c =
    let stretches = c.args.stretches.now in
    let found : c.index-stretches-place.result ≡ stretch_at stretches c.in-Some.place = get_or_read stretches c.in-Some.place c.index-stretches-place.result c.in-Some.ensures.inside c.index-stretches-place.is stack in
    are_behind stretches c.in-Some.place c.args.address c.index-stretches-place.result c.from_place.result.now c.requires c.in-Some.ensures found
    (c.from_place.ensures ∙ ap (λ n. drop (c.args.address - n) c.index-stretches-place.result.bytes) c.start.ensures)

pub returns-in-Some-clause-to_the_end : goal.returns-in-Some-clause-to_the_end
returns-in-Some-clause-to_the_end c = (behind c).to_the_end

pub returns-in-Some-clause-bytes : goal.returns-in-Some-clause-bytes
returns-in-Some-clause-bytes c = (behind c).bytes

pub returns-in-Some-clause-mapped : goal.returns-in-Some-clause-mapped
returns-in-Some-clause-mapped c = (behind c).mapped

pub returns-in-None-clause-to_the_end : goal.returns-in-None-clause-to_the_end
returns-in-None-clause-to_the_end c = sym (behind_none c.args.stretches.now c.args.address c.in-None.ensures.missed)

pub returns-in-None-clause-empty : goal.returns-in-None-clause-empty
returns-in-None-clause-empty c = λ _. ap (λ (o : Option Cell). is_some o) (nowhere c.args.stretches.now c.args.address c.in-None.ensures.missed)

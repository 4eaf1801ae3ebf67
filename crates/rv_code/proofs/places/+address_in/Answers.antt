-- The address at a place is that of the first range, or that in the others behind all of its words.
use Rattle.std.proofs.Common.{sym, ◌∙◌, ap, ◌-◌, arith}
use Rattle.rv_code.specs.Code.{extents_of}
use Rattle.rv_code.specs.Places.{address_of}
use Rattle.rv_code.proofs.LawsOfLookUps.{address_of-here, address_of-behind, others}
use Rattle.rv_code.proofs.places.+address_in.Goals as goal

pub returns-then-place-count : goal.returns-then-place-count
returns-then-place-count t c = sym (address_of-here c.args.ranges.now c.range-item.result c.args.place c.in-len1-up.len_at_least c.range-item.is (omega arith))

pub returns-else-place-count : goal.returns-else-place-count
returns-else-place-count t c =
    c.address_in.ensures
    ∙ (ap (λ count. address_of (extents_of (others c.args.ranges.now)) (c.args.place - count)) c.count-count.ensures
    ∙ sym (address_of-behind c.args.ranges.now c.range-item.result c.args.place c.in-len1-up.len_at_least c.range-item.is (omega arith)))

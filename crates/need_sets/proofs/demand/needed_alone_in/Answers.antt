-- Where all places are settled, all that is needed for the one base is known to be.
use Rattle.need_sets.specs.Masks.{base_alone}
use Rattle.need_sets.proofs.Based.{alone_asks, alone_has}
use Rattle.need_sets.proofs.Complete.{all_is_needed, empty_is_settled, empty_is_sound}
use Rattle.need_sets.proofs.Settled.{all_still}
use Rattle.need_sets.proofs.demand.needed_alone_in.Goals as goal

pub settle-requires-clause-settled : goal.settle-requires-clause-settled
settle-requires-clause-settled c =
    all_still c.args.ranges.now c.in_ok-search.search c.need_base_at.new.self c.in_ok-need_base_at.ensures.spreads
    (empty_is_settled c.args.ranges.now c.count_in.result c.in_ok-search.search c.in_ok-search.ensures.masks)

pub returns : goal.returns
returns c =
    all_is_needed c.args.ranges.now (base_alone c.args.ranges.now c.args.access) c.settle.new.self c.requires.order c.in_ok-settle.ensures.settled
    (alone_has c.args.ranges.now c.args.access c.need_base_at.new.self c.settle.new.self c.in_ok-settle.ensures.grown c.in_ok-need_base_at.ensures.needed)
    c.in_ok-settle.ensures.sized.masks c.in_ok-settle.ensures.sized.used
    (c.in_ok-settle.ensures.sound (base_alone c.args.ranges.now c.args.access)
    (c.in_ok-need_base_at.ensures.sound (base_alone c.args.ranges.now c.args.access) (alone_asks c.args.ranges.now c.args.access)
    (empty_is_sound c.args.ranges.now (base_alone c.args.ranges.now c.args.access) c.count_in.result c.in_ok-search.search c.in_ok-search.ensures.masks c.in_ok-search.ensures.used)))

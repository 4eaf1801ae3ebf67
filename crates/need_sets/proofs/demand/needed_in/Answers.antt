-- Where all places are settled, all that is needed is known to be.
use Rattle.need_sets.specs.Words.{base_at}
use Rattle.need_sets.proofs.Complete.{all_is_needed, empty_is_settled, empty_is_sound, place_within}
use Rattle.need_sets.proofs.Settled.{all_still}
use Rattle.need_sets.proofs.demand.needed_in.Goals as goal

pub settle-requires-clause-settled : goal.settle-requires-clause-settled
settle-requires-clause-settled c =
    all_still c.args.ranges.now c.in_ok-search.search c.need_bases.new.self c.in_ok-need_bases.ensures.spreads
    (empty_is_settled c.args.ranges.now c.count_in.result c.in_ok-search.search c.in_ok-search.ensures.masks)

pub returns : goal.returns
returns c =
    all_is_needed c.args.ranges.now (base_at c.args.ranges.now) c.settle.new.self c.requires.order c.in_ok-settle.ensures.settled
    (λ place address register at is.
    c.in_ok-settle.ensures.grown place register (c.in_ok-need_bases.ensures.needed place (place_within c.args.ranges.now place address at) address register at is))
    c.in_ok-settle.ensures.sized.masks c.in_ok-settle.ensures.sized.used
    (c.in_ok-settle.ensures.sound (base_at c.args.ranges.now)
    (c.in_ok-need_bases.ensures.sound (base_at c.args.ranges.now) (λ place address register at is. is)
    (empty_is_sound c.args.ranges.now (base_at c.args.ranges.now) c.count_in.result c.in_ok-search.search c.in_ok-search.ensures.masks c.in_ok-search.ensures.used)))

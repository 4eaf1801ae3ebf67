use Rattle.need_sets.proofs.Based.{based_first, based_more}
use Rattle.need_sets.proofs.search.Search.need_bases.Goals as goal

pub loop-place-init : goal.loop-place-init
loop-place-init c = based_first c.args.ranges.now c.args.self.now c.requires.sized

pub loop-place-preserved : goal.loop-place-preserved
loop-place-preserved c =
    based_more c.args.ranges.now c.loop-place.place c.args.self.now c.loop-place.self c.need_base.new.self c.loop-place.invariant
    c.in_ok-need_base.ensures.sized c.in_ok-need_base.ensures.spreads c.in_ok-need_base.ensures.needed c.in_ok-need_base.ensures.sound

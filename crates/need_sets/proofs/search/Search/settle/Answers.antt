-- A place is taken out and passed back.
use Rattle.std.proofs.Common.{refl}
use Rattle.need_sets.proofs.Settled.{settled_more, settled_all}
use Rattle.need_sets.proofs.search.Search.settle.Goals as goal

pub loop-goal-preserved : goal.loop-goal-preserved
loop-goal-preserved c =
    settled_more c.args.ranges.now c.args.self.now c.loop-goal.self (record { masks = c.loop-goal.self.masks; used = c.loop-goal.self.used; waiting = c.take.new.self })
    c.pass_back.new.self c.in-Some.goal c.in-Some.ensures.taken refl refl c.loop-goal.invariant
    c.in_ok-pass_back.ensures.sized c.in_ok-pass_back.ensures.spreads c.in_ok-pass_back.ensures.settled c.in_ok-pass_back.ensures.sound

pub returns-clause-settled : goal.returns-clause-settled
returns-clause-settled c =
    settled_all c.args.ranges.now c.args.self.now c.loop-goal.self (record { masks = c.loop-goal.self.masks; used = c.loop-goal.self.used; waiting = c.take.new.self })
    c.in_default.ensures.taken refl refl c.loop-goal.invariant

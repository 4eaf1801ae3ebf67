-- After both ways the place is settled, unless it waits again.
use Rattle.std.proofs.Common.{◌<◌, length, ◌∙◌, arith}
use Rattle.std.proofs.lemmas.Grind.{get_or_default_zero}
use Rattle.std.proofs.lemmas.Result.{on_ok_weaker}
use Rattle.need_sets.proofs.Passing.{on_ok_both}
use Rattle.need_sets.proofs.Settled.{settled_here}
use Rattle.need_sets.proofs.Spread.{spreads_on}
use Rattle.need_sets.proofs.search.Search.pass_back.Goals as goal

pub returns-clause-spreads : goal.returns-clause-spreads
returns-clause-spreads c =
    on_ok_weaker c.pass_by-2.result (spreads_on c.args.self.now c.pass_by.new.self c.pass_by-2.new.self c.in_ok-pass_by.ensures.spreads) c.pass_by-2.ensures.spreads

pub returns-clause-settled : goal.returns-clause-settled
returns-clause-settled c =
    let inside : c.args.goal < length c.args.self.now.masks.items = omega (arith, c.requires.within, c.requires.sized.masks) in
    on_ok_both c.pass_by-2.result c.pass_by-2.ensures.spreads c.pass_by-2.ensures.passed
    (λ second takes. settled_here c.args.ranges.now c.args.self.now c.pass_by.new.self c.pass_by-2.new.self c.args.goal c.index-behind.result.now
    (c.index-behind.ensures ∙ get_or_default_zero _ _ _ inside) c.in_ok-pass_by.ensures.spreads second c.in_ok-pass_by.ensures.passed takes)

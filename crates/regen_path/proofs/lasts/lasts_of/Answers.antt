use Rattle.std.proofs.Common.{arith}
use Rattle.regen_path.proofs.LastUnder.{lasts_own}
use Rattle.regen_path.proofs.lasts.lasts_of.Goals as goal

pub loop-number-init : goal.loop-number-init
loop-number-init c = record {
  within = omega arith;
  from = lasts_own c.args.visits.now c.in_ok-lasts.lasts.items c.in_ok-lasts.ensures.long c.in_ok-lasts.ensures.own;
}

use Rattle.std.proofs.Common.{◌≡◌, ◌<◌, ℕ, List, length, ap, sym, subst, ◌∙◌, arith}
use Rattle.std.specs.List.{AllByRecursion}
use Rattle.ae_nums.specs.Registers.{registers_of}
use Rattle.regen_walk.specs.Registers.{with_values}
use Rattle.regen_walk.proofs.Counts.{registers_low}
use Rattle.regen_walk.proofs.registers.put_values.Goals as goal

pub loop-register-init : goal.loop-register-init
loop-register-init c =
    let same : c.into_iter-register-iterator.result ≡ registers_of c.args.mask = c.into_iter-register-iterator.ensures.into_iter_gives ∙ c.registers_of-register-items.ensures in
    record {
      next = tt;
      finite = tt;
      rest = ap (λ (numbers : List ℕ). with_values c.args.registers.now numbers c.args.values.now) same;
      long = omega (arith, ap length same, c.requires);
      low = subst (AllByRecursion (λ (register : ℕ). register < 32)) (sym same) (registers_low c.args.mask);
    }

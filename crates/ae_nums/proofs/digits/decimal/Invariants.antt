use Rattle.std.proofs.Common.{◌+◌, ◌^◌, ◌<◌, ◌≤◌, ◌≡◌, ◌++◌, length, drop}
use Rattle.ae_nums.specs.Decimal.{decimal_text}
use Rattle.ae_nums.proofs.digits.decimal.Given as goal

abbrev pub invariant-loop-rest : goal.invariant-loop-rest
invariant-loop-rest l =
    (length l.digits ≡ 20) × (l.from ≤ 19) × (l.rest < 10 ^ (l.from + 1)) × (decimal_text l.rest ++ drop (l.from + 1) l.digits ≡ decimal_text l.number)

abbrev pub decreases-loop-rest : goal.decreases-loop-rest
decreases-loop-rest l = l.rest

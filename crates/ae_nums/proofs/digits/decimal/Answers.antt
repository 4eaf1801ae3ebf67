use Rattle.std.proofs.Common.{arith, ◌≡◌, ◌+◌, ◌-◌, ◌++◌, ap, ◌∙◌}
use Rattle.std.proofs.lemmas.List.{length-set}
use Rattle.std.proofs.lemmas.Fmt.{length-decimal-le}
use Rattle.ae_nums.specs.Decimal.{decimal_text}
use Rattle.ae_nums.proofs.Places.{decimal_more, decimal_all, place_left}
use Rattle.ae_nums.proofs.digits.decimal.Goals as goal

pub loop-rest-preserved : goal.loop-rest-preserved
loop-rest-preserved c =
    let left = place_left c.loop-rest.rest c.loop-rest.from c.loop-rest-test.true c.loop-rest.invariant.2 in
    let same : c.loop-rest.from - 1 + 1 ≡ c.loop-rest.from = omega (arith, left.0) in
    rw same (
      simp length-set c.loop-rest.invariant.0,
      omega arith,
      left.1,
      decimal_more c.loop-rest.rest c.loop-rest.from c.loop-rest.digits (decimal_text c.args.number) c.loop-rest-test.true (omega arith) (omega arith) c.loop-rest.invariant.3,
    )

pub returns-clause-digits : goal.returns-clause-digits
returns-clause-digits c =
    c.push.ensures ∙ ap (λ text. c.args.out.now ++ text) (decimal_all c.loop-rest.rest c.loop-rest.from c.loop-rest.digits (decimal_text c.args.number) c.loop-rest-test.false c.loop-rest.invariant.0 (omega arith) c.loop-rest.invariant.3)

pub returns-clause-short : goal.returns-clause-short
returns-clause-short c = length-decimal-le 20 c.args.number (omega arith) (omega arith) (omega arith)

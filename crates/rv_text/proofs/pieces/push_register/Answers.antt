use Rattle.std.proofs.Common.{◌≤◌, length, ap, arith, length-append}
use Rattle.std.proofs.lemmas.Fmt.{length-decimal-le}
use Rattle.ae_nums.specs.Decimal.{decimal_text}
use Rattle.rv_text.proofs.pieces.push_register.Goals as goal

pub returns-clause-size : goal.returns-clause-size
returns-clause-size c =
    let digits : length (decimal_text c.from.result) ≤ 3 = length-decimal-le 3 c.from.result (omega arith) (omega arith) (omega arith) in
    omega (arith, simp length-append at (ap length c.decimal.ensures.digits), simp length-append at (ap length c.push.ensures))

use Rattle.std.proofs.Common.{◌≤◌, length, ap, arith, length-append}
use Rattle.std.proofs.lemmas.Fmt.{length-decimal-le}
use Rattle.ae_nums.specs.Decimal.{decimal_text}
use Rattle.rv_text.proofs.pieces.push_signed.Goals as goal

pub returns-else-number-lt0-clause-size : goal.returns-else-number-lt0-clause-size
returns-else-number-lt0-clause-size c =
    let digits : length (decimal_text c.from.result) ≤ 10 = length-decimal-le 10 c.from.result (omega arith) (omega arith) (omega arith) in
    omega (arith, simp length-append at (ap length c.decimal.ensures.digits))

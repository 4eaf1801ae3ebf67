use Rattle.std.proofs.Common.{rules, None}
use Rattle.ae_nums.proofs.Reading.{one_spelling, read_back}
use Rattle.ae_nums.proofs.digits.read_decimal.Goals as goal

pub returns-then-bytes-gt1-clause-read_back : goal.returns-then-bytes-gt1-clause-read_back
returns-then-bytes-gt1-clause-read_back c = read_back c.args.bytes.now None (search rules)

pub returns-else-bytes-gt1-clause-one_spelling : goal.returns-else-bytes-gt1-clause-one_spelling
returns-else-bytes-gt1-clause-one_spelling c = one_spelling c.args.bytes.now c.number_of_digits.result (search rules)

pub returns-else-bytes-gt1-clause-read_back : goal.returns-else-bytes-gt1-clause-read_back
returns-else-bytes-gt1-clause-read_back c = read_back c.args.bytes.now c.number_of_digits.result (search rules)

use Rattle.std.proofs.Common.{rules, tests, arith}
use Rattle.rv_code.proofs.Levels.{meaning_from_levels}
use Rattle.rv_code.proofs.decoder.by_opcode.Goals as goal

pub returns-in_default : goal.returns-in_default
returns-in_default c = meaning_from_levels c.args.word (omega arith) _ (search (tests, rules))

use Rattle.std.proofs.Common.{arith}
use Rattle.rv_code.proofs.LawsOfMasks.{shifted-mask_of}
use Rattle.rv_code.proofs.parts.bit_of.Goals as goal

pub returns-in_default : goal.returns-in_default
returns-in_default c = let other = c.in_default in shifted-mask_of c.args.register (omega arith) (omega arith)

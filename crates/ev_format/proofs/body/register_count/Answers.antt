use Rattle.std.proofs.Common.{arith}
use Rattle.ev_format.proofs.Counted.{length-registers_of, few_registers}
use Rattle.ev_format.proofs.body.register_count.Goals as goal

pub returns-clause-count : goal.returns-clause-count
returns-clause-count c = omega (arith, length-registers_of c.args.mask (omega arith) c.requires)

pub returns-clause-few : goal.returns-clause-few
returns-clause-few c = few_registers c.args.mask (omega arith) c.requires

use Rattle.ae_nums.proofs.LawsOfRegisters.{registers_of-even}
use Rattle.ae_nums.proofs.registers.registers_of.Goals as goal

pub returns : goal.returns
returns c = registers_of-even c.args.mask

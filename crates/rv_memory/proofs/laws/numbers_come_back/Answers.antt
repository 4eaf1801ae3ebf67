use Rattle.rv_memory.proofs.ReadBack.{numbers_come_back}
use Rattle.rv_memory.proofs.laws.numbers_come_back.Goals as goal

pub returns : goal.returns
returns c = numbers_come_back

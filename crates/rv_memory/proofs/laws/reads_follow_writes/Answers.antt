use Rattle.rv_memory.proofs.ReadBack.{reads_follow_writes}
use Rattle.rv_memory.proofs.laws.reads_follow_writes.Goals as goal

pub returns : goal.returns
returns c = reads_follow_writes

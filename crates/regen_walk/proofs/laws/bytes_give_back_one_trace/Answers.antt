use Rattle.regen_walk.proofs.OneTrace.{one_trace}
use Rattle.regen_walk.proofs.laws.bytes_give_back_one_trace.Goals as goal

pub returns : goal.returns
returns c = one_trace

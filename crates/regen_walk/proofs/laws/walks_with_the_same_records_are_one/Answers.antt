use Rattle.regen_walk.proofs.OneWalk.{same_walk}
use Rattle.regen_walk.proofs.laws.walks_with_the_same_records_are_one.Goals as goal

pub returns : goal.returns
returns c = same_walk

use Rattle.regen_walk.proofs.ShortestWalk.{shortest_up}
use Rattle.regen_walk.proofs.laws.the_shortest_walk_ends_with_a_record.Goals as goal

pub returns : goal.returns
returns c = shortest_up

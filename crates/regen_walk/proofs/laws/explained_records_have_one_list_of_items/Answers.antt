use Rattle.regen_walk.proofs.ShortestWalk.{explained_items}
use Rattle.regen_walk.proofs.laws.explained_records_have_one_list_of_items.Goals as goal

pub returns : goal.returns
returns c = explained_items

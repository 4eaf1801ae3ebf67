use Rattle.regen_walk.proofs.LawsOfWalks.{front_explained}
use Rattle.regen_walk.proofs.laws.fronts_of_explained_records_are_explained.Goals as goal

pub returns : goal.returns
returns c = front_explained

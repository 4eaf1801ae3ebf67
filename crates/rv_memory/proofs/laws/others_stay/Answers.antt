use Rattle.rv_memory.proofs.LawsOfCells.{other_cells_stay}
use Rattle.rv_memory.proofs.laws.others_stay.Goals as goal

pub returns : goal.returns
returns c = other_cells_stay

use Rattle.rv_machine.proofs.Mapped.{regions_stay}
use Rattle.rv_machine.proofs.laws.regions_stay.Goals as goal

pub returns : goal.returns
returns c = regions_stay

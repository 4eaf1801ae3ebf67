use Rattle.rv_machine.proofs.Mapped.{tracers_stay}
use Rattle.rv_machine.proofs.laws.tracers_stay.Goals as goal

pub returns : goal.returns
returns c = tracers_stay

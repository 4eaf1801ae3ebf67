use Rattle.rv_machine.proofs.Ranges.{step_keeps_ranges}
use Rattle.rv_machine.proofs.laws.ranges_stay.Goals as goal

pub returns : goal.returns
returns c = step_keeps_ranges

use Rattle.rv_machine.proofs.Given.{outputs_only_grow}
use Rattle.rv_machine.proofs.laws.outputs_grow.Goals as goal

pub returns : goal.returns
returns c = outputs_only_grow

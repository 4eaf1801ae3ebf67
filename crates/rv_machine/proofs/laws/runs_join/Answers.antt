use Rattle.rv_machine.proofs.Runs.{run_joins}
use Rattle.rv_machine.proofs.laws.runs_join.Goals as goal

pub returns : goal.returns
returns c = run_joins

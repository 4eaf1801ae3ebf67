use Rattle.rv_machine.proofs.Runs.{item_lists_join}
use Rattle.rv_machine.proofs.laws.items_join.Goals as goal

pub returns : goal.returns
returns c = item_lists_join

use Rattle.rv_memory.proofs.writing.+shut_from.Given as goal

abbrev pub decreases-shut_from : goal.decreases-shut_from
decreases-shut_from l = l.count

use Rattle.rv_memory.proofs.reading.+gather.Given as goal

abbrev pub decreases-gather : goal.decreases-gather
decreases-gather l = l.count

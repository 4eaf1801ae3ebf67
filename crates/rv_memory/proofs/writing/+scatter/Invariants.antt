use Rattle.rv_memory.proofs.writing.+scatter.Given as goal

abbrev pub decreases-scatter : goal.decreases-scatter
decreases-scatter l = l.count

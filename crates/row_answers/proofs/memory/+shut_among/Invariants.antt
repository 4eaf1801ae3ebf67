use Rattle.row_answers.proofs.memory.+shut_among.Given as goal

abbrev pub decreases-shut_among : goal.decreases-shut_among
decreases-shut_among l = l.count

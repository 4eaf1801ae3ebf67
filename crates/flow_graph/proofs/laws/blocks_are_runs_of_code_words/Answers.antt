use Rattle.flow_graph.proofs.LawsOfBlocks.{blocks_are_runs, words_are_in_one_block}
use Rattle.flow_graph.proofs.laws.blocks_are_runs_of_code_words.Goals as goal

pub returns-clause-blocks : goal.returns-clause-blocks
returns-clause-blocks c = blocks_are_runs

pub returns-clause-words : goal.returns-clause-words
returns-clause-words c = words_are_in_one_block

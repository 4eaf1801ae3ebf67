use Rattle.rv_code.proofs.Apart.{instruction_table_apart}
use Rattle.rv_code.proofs.laws.no_word_agrees_with_two.Goals as goal

pub returns : goal.returns
returns c = instruction_table_apart

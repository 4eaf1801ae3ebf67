use Rattle.flow_graph.proofs.Named.{first_keeps, names_are_apart}
use Rattle.flow_graph.proofs.laws.the_first_symbol_of_a_name_keeps_it.Goals as goal

pub returns-clause-first : goal.returns-clause-first
returns-clause-first c = first_keeps

pub returns-clause-apart : goal.returns-clause-apart
returns-clause-apart c = names_are_apart

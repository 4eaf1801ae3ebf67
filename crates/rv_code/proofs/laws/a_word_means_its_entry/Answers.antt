use Rattle.rv_code.proofs.Apart.{each_means_its_entry, none_means_bad}
use Rattle.rv_code.proofs.laws.a_word_means_its_entry.Goals as goal

pub returns : goal.returns
returns c = record { entry = each_means_its_entry; none = none_means_bad }

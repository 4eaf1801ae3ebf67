use Rattle.ev_format.proofs.Spelled.{same_record}
use Rattle.ev_format.proofs.laws.records_have_one_spelling.Goals as goal

pub returns : goal.returns
returns c = λ shape is rec other rest behind one two same. same_record shape rec other rest behind is one two same

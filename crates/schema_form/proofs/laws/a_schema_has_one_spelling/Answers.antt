use Rattle.schema_form.proofs.SameBytes.{one_spelling}
use Rattle.schema_form.proofs.laws.a_schema_has_one_spelling.Goals as goal

pub returns : goal.returns
returns c = one_spelling

use Rattle.schema_form.proofs.Refused.{refusals_exact}
use Rattle.schema_form.proofs.laws.refusals_are_exact.Goals as goal

pub returns : goal.returns
returns c = refusals_exact

use Rattle.schema_form.proofs.SameEvents.{same_events}
use Rattle.schema_form.proofs.laws.runs_have_one_list_of_events.Goals as goal

pub returns : goal.returns
returns c = same_events

use Rattle.schema_form.proofs.WrittenSchema.{spelled}
use Rattle.schema_form.proofs.laws.written_schemas_are_read.Goals as goal

pub returns : goal.returns
returns c = spelled

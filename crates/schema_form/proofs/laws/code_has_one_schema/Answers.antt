use Rattle.schema_form.proofs.OneSchema.{same_schema}
use Rattle.schema_form.proofs.laws.code_has_one_schema.Goals as goal

pub returns : goal.returns
returns c = same_schema

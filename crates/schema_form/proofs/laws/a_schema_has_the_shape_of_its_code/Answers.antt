use Rattle.schema_form.proofs.OwnShape.{own_shape, shape_of_code}
use Rattle.schema_form.proofs.laws.a_schema_has_the_shape_of_its_code.Goals as goal

pub returns-clause-schema : goal.returns-clause-schema
returns-clause-schema c = own_shape

pub returns-clause-shape : goal.returns-clause-shape
returns-clause-shape c = shape_of_code

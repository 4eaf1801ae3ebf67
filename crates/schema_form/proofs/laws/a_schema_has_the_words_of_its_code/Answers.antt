use Rattle.schema_form.proofs.OwnShape.{finds_words}
use Rattle.schema_form.proofs.laws.a_schema_has_the_words_of_its_code.Goals as goal

pub returns : goal.returns
returns c = finds_words

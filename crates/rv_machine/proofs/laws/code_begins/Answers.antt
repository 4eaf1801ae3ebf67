use Rattle.std.proofs.Common.{subst}
use Rattle.rv_code.specs.ImageView.{image_parts}
use Rattle.rv_machine.specs.Laws.{BeginsWithCode}
use Rattle.rv_machine.proofs.FirstCode.{begins_with_code}
use Rattle.rv_machine.proofs.laws.code_begins.Goals as goal

pub returns : goal.returns
returns c = subst BeginsWithCode c.image.view_is (begins_with_code (image_parts c.image.inside) c.image.invariant)

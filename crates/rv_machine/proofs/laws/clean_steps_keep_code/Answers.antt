use Rattle.std.proofs.Common.{subst}
use Rattle.rv_code.specs.ImageView.{image_parts}
use Rattle.rv_machine.specs.Laws.{CleanStepsKeepCode, FetchesItsCode}
use Rattle.rv_machine.proofs.CodeKept.{clean_steps, fetches}
use Rattle.rv_machine.proofs.laws.clean_steps_keep_code.Goals as goal

pub returns-clause-steps : goal.returns-clause-steps
returns-clause-steps c = subst CleanStepsKeepCode c.image.view_is (clean_steps (image_parts c.image.inside) c.image.invariant)

pub returns-clause-fetches : goal.returns-clause-fetches
returns-clause-fetches c = subst FetchesItsCode c.image.view_is (fetches (image_parts c.image.inside))

use Rattle.std.proofs.Common.{subst}
use Rattle.rv_code.specs.ImageView.{image_parts}
use Rattle.rv_machine.specs.Laws.{BeginsInRanges}
use Rattle.rv_machine.proofs.Begun.{begins_in_ranges}
use Rattle.rv_machine.proofs.laws.ranges_begin.Goals as goal

pub returns : goal.returns
returns c = subst BeginsInRanges c.image.view_is (begins_in_ranges (image_parts c.image.inside) c.image.invariant)

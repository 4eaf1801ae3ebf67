-- The ranges are those that were made.
use Rattle.std.proofs.Common.{◌∙◌}
use Rattle.mixed_code.specs.Mixed.{mixed_code}
use Rattle.mixed_code.proofs.Fours.{four_same}
use Rattle.mixed_code.proofs.mixed.code.Goals as goal

pub returns : goal.returns
unfolding mixed_code
returns c =
    c.in_ok-vec.ensures.items ∙ four_same c.in_ok-range.ensures c.in_ok-range-2.ensures c.in_ok-range-3.ensures c.in_ok-range-4.ensures

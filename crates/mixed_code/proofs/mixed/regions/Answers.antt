-- The regions are those that were made.
use Rattle.std.proofs.Common.{◌∙◌}
use Rattle.mixed_code.specs.Mixed.{mixed_regions}
use Rattle.mixed_code.proofs.Fours.{four_same}
use Rattle.mixed_code.proofs.mixed.regions.Goals as goal

pub returns : goal.returns
unfolding mixed_regions
returns c =
    c.in_ok-vec.ensures.items ∙ four_same c.in_ok-region.ensures c.in_ok-region-2.ensures c.in_ok-region-3.ensures c.in_ok-region-4.ensures

use Rattle.ae_nums.proofs.hex.lowest_digit.Goals as goal
use Rattle.ae_nums.proofs.Pairs.{lowest_of}

pub returns : goal.returns
returns c = lowest_of _ _ c.digit_at.ensures

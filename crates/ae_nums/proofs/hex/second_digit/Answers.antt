use Rattle.ae_nums.proofs.hex.second_digit.Goals as goal
use Rattle.ae_nums.proofs.Pairs.{second_of}

pub returns : goal.returns
returns c = second_of _ _ c.digit_at.ensures

use Rattle.ae_nums.proofs.hex.hex8.Goals as goal
use Rattle.ae_nums.proofs.Pairs.{digits_of_bytes}

pub returns : goal.returns
returns c = digits_of_bytes c.args.word _ _ _ _ _ _ _ _ c.second_digit.ensures c.lowest_digit.ensures c.second_digit-2.ensures
    c.lowest_digit-2.ensures c.second_digit-3.ensures c.lowest_digit-3.ensures c.second_digit-4.ensures c.lowest_digit-4.ensures

use Rattle.ev_format.proofs.Unique.{one_reading}
use Rattle.ev_format.proofs.laws.a_reading_is_the_only_one.Goals as goal

pub returns : goal.returns
returns c = one_reading

use Rattle.ev_format.proofs.Unique.{one_front}
use Rattle.ev_format.proofs.laws.one_front_begins_the_other.Goals as goal

pub returns : goal.returns
returns c = one_front

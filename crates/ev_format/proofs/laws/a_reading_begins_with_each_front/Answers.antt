use Rattle.ev_format.proofs.Unique.{front_of_reading}
use Rattle.ev_format.proofs.laws.a_reading_begins_with_each_front.Goals as goal

pub returns : goal.returns
returns c = front_of_reading

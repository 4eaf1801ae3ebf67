use Rattle.ev_format.proofs.WrittenFile.{file_read}
use Rattle.ev_format.proofs.laws.written_records_are_read.Goals as goal

pub returns : goal.returns
returns c = file_read

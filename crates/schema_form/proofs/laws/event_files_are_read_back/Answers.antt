use Rattle.schema_form.proofs.RunRecords.{read_back}
use Rattle.schema_form.proofs.laws.event_files_are_read_back.Goals as goal

pub returns : goal.returns
returns c =
    read_back c.args.image.now c.words_and_instructions_agree.ensures.words c.ranges_stay.ensures c.ranges_begin.ensures c.written_records_are_read.ensures

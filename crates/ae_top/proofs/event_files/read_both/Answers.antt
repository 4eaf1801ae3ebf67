use Rattle.ae_top.proofs.EventsBehind.{no_schema}
use Rattle.ae_top.proofs.ToldBehind.{sized_there}
use Rattle.ae_top.proofs.event_files.read_both.Goals as goal

pub returns-in-Err-clause-lacks : goal.returns-in-Err-clause-lacks
returns-in-Err-clause-lacks g c =
    let told = g.S.Store.told c.args.store.now in
    no_schema told c.args.schema.now c.args.events.now c.in-Err.why c.no_events_by.result c.no_events_by.ensures
    (sized_there told c.args.events.now c.args.events_size c.requires.events_size) c.in-Err.ensures.lacks

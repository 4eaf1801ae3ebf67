use Rattle.ae_top.proofs.EventsBehind.{lacked_events_before, read_before}
use Rattle.ae_top.proofs.event_files.read_event_files.Goals as goal

pub returns-in-Ok-Some-clause-read : goal.returns-in-Ok-Some-clause-read
returns-in-Ok-Some-clause-read g c =
    read_before (g.S.Store.told c.args.store.now) (g.S.Store.told c.size.new.self) c.args.schema.now c.args.events.now c.size.ensures.files c.read_sized_schema.result c.read_sized_schema.ensures.read

pub returns-in-Ok-Some-clause-lacks : goal.returns-in-Ok-Some-clause-lacks
returns-in-Ok-Some-clause-lacks g c =
    lacked_events_before (g.S.Store.told c.args.store.now) (g.S.Store.told c.size.new.self) c.args.schema.now c.args.events.now c.size.ensures.files c.read_sized_schema.result c.read_sized_schema.ensures.lacks

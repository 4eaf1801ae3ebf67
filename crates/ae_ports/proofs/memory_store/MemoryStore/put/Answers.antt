use Rattle.ae_ports.proofs.Places.{put_holds, put_keeps}
use Rattle.ae_ports.proofs.memory_store.MemoryStore.put.Goals as goal

pub returns-clause-held : goal.returns-clause-held
returns-clause-held c = put_holds c.put.result c.self.inside.files.items c.put.new.files.items c.args.name c.args.bytes.items c.put.ensures.ok

pub returns-clause-others : goal.returns-clause-others
returns-clause-others c other differs =
    rw (← c.self.view_is) (put_keeps c.put.result c.self.inside.files.items c.put.new.files.items c.args.name c.args.bytes.items other c.put.ensures.ok c.put.ensures.err differs)

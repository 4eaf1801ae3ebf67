use Rattle.std.proofs.Common.{rules, ◌≡◌, []}
use Rattle.ae_ports.specs.Named.{put_file}
use Rattle.ae_ports.proofs.Places.{file_named-put_file, file_named-put_other}
use Rattle.ae_ports.proofs.memory_store.MemoryStoreStore.make.Goals as goal

pub returns-in-Ok-clause-content : goal.returns-in-Ok-clause-content
returns-in-Ok-clause-content c =
    let made : c.empty.new.self.files ≡ put_file c.args.self.now.files c.args.name.now [] = search rules in rw made (file_named-put_file c.args.self.now.files c.args.name.now [])

pub returns-in-Ok-clause-others : goal.returns-in-Ok-clause-others
returns-in-Ok-clause-others c other differs =
    let made : c.empty.new.self.files ≡ put_file c.args.self.now.files c.args.name.now [] = search rules in rw made (file_named-put_other c.args.self.now.files c.args.name.now [] other differs)

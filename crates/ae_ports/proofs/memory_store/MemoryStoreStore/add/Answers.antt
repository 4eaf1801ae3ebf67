use Rattle.std.proofs.Common.{rules, ◌≡◌}
use Rattle.ae_ports.specs.Named.{grow_file}
use Rattle.ae_ports.proofs.Places.{file_named-grow_file, file_named-grow_other}
use Rattle.ae_ports.proofs.memory_store.MemoryStoreStore.add.Goals as goal

pub returns-in-Ok-clause-content : goal.returns-in-Ok-clause-content
returns-in-Ok-clause-content c =
    let added : c.grow.new.files.items ≡ grow_file c.args.self.now.files c.args.name.now c.args.bytes.now = search rules in rw added (file_named-grow_file c.args.self.now.files c.args.name.now c.args.bytes.now)

pub returns-in-Ok-clause-others : goal.returns-in-Ok-clause-others
returns-in-Ok-clause-others c other differs =
    let added : c.grow.new.files.items ≡ grow_file c.args.self.now.files c.args.name.now c.args.bytes.now = search rules in rw added (file_named-grow_other c.args.self.now.files c.args.name.now c.args.bytes.now other differs)

use Rattle.ae_top.proofs.KeptSchema.{lacked_before}
use Rattle.ae_top.proofs.schema_file.load_schema.Goals as goal

pub returns-in-Ok-Some-clause-lacks : goal.returns-in-Ok-Some-clause-lacks
returns-in-Ok-Some-clause-lacks g c =
    lacked_before c.read_schema_file.result (g.S.Store.told c.args.store.now) (g.S.Store.told c.size.new.self) c.args.name.now c.size.ensures.files c.read_schema_file.ensures.lacks

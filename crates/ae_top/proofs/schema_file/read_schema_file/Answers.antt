use Rattle.std.proofs.Common.{◌≡◌, ◌≤◌, length, rules, subst}
use Rattle.ae_ports.specs.Files.{HasBytes}
use Rattle.schema_form.specs.declared.limits.TheConstants.{SCHEMA_LIMIT}
use Rattle.ae_top.proofs.KeptSchema.{lacks_in}
use Rattle.ae_top.proofs.schema_file.read_schema_file.Goals as goal

pub returns-in-Ok-clause-lacks : goal.returns-in-Ok-clause-lacks
returns-in-Ok-clause-lacks g c =
    let told = g.S.Store.told c.args.store.now in
    let read : c.in-Ok.bytes.items ≡ c.deref.result.now = search rules in
    let has = subst (HasBytes told c.args.name.now) read c.in-Ok.ensures.bytes in
    let small : length c.deref.result.now ≤ SCHEMA_LIMIT = search rules in
    lacks_in told c.args.name.now c.deref.result.now c.in-Err.fault c.no_schema_by.result c.no_schema_by.ensures has small c.in-Err.ensures.refused

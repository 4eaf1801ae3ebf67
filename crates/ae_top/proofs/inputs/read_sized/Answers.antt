use Rattle.ae_top.proofs.TooLong.{longer}
use Rattle.ae_top.proofs.inputs.read_sized.Goals as goal

pub returns-then-size-limit-clause-lacks : goal.returns-then-size-limit-clause-lacks
returns-then-size-limit-clause-lacks g c =
    longer (g.S.Store.told c.args.store.now) c.args.name.now c.args.size c.args.limit c.requires.size c.if-size-limit.true

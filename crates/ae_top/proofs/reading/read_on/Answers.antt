use Rattle.std.proofs.Common.{arith, rules}
use Rattle.ae_top.proofs.Fronts.{read_more}
use Rattle.ae_top.proofs.reading.read_on.Goals as goal

pub returns-clause-front : goal.returns-clause-front
returns-clause-front g c =
    read_more _ _ _ c.args.got _ c.args.buf.now _ c.get.result (omega arith) (search rules) c.requires.front c.get.ensures.content c.get.ensures.files

use Rattle.std.proofs.Common.{sym}
use Rattle.ae_ports.proofs.Places.{absent}
use Rattle.ae_ports.proofs.file.grow.Goals as goal

pub returns-in-None-clause-ok : goal.returns-in-None-clause-ok
returns-in-None-clause-ok c = sym ((absent _ _ (rw c.deref.ensures.value at c.in-None.ensures)).grown _)

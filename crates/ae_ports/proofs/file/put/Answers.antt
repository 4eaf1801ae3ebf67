use Rattle.std.proofs.Common.{sym, ◌∙◌}
use Rattle.ae_ports.proofs.Places.{absent}
use Rattle.ae_ports.proofs.file.put.Goals as goal

pub returns-in_ok-push-in-None-clause-ok : goal.returns-in_ok-push-in-None-clause-ok
returns-in_ok-push-in-None-clause-ok c =
    c.in_ok-push-in-None.ensures.items ∙ sym ((absent _ _ (rw c.deref.ensures.value at c.in-None.ensures)).put _)

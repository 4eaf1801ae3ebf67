use Rattle.ae_ports.proofs.Pieces.{reads}
use Rattle.ae_ports.proofs.steady_source.SteadySourceSource.read.Goals as goal

pub returns-clause-content : goal.returns-clause-content
returns-clause-content c = rw (← c.self.view_is) (reads _ _ _ _ _ (rw c.deref.ensures.value at c.copy_from-count.ensures))

use Rattle.ae_ports.proofs.Left.{gets_left, stays_there}
use Rattle.ae_ports.proofs.store_source.StoreSourceSource.read.Goals as goal

pub invariant_of-self : goal.invariant_of-self
invariant_of-self g c = record { there = stays_there _ _ _ c.get.ensures.files c.args.self.now.there }

pub invariant_of-self-2 : goal.invariant_of-self-2
invariant_of-self-2 g c = record { there = stays_there _ _ _ c.get.ensures.files c.args.self.now.there }

pub returns-clause-content : goal.returns-clause-content
returns-clause-content g c = gets_left _ _ _ _ _ _ _ c.saturating_add-self.ensures c.get.ensures.files c.in_ok-count.ensures.content

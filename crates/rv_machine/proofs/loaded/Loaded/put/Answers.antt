use Rattle.std.proofs.Common.{length, ap, ◌∙◌}
use Rattle.rv_memory.specs.Stretches.{memory_of}
use Rattle.rv_memory.specs.Memory.{span, first_shut}
use Rattle.rv_machine.specs.Inner.Decoded.{Contents}
use Rattle.rv_machine.proofs.Fixed.{tables_after_put}
use Rattle.rv_machine.proofs.loaded.Loaded.put.Goals as goal

pub invariant_of-self : goal.invariant_of-self
invariant_of-self c =
    let addresses = span c.args.address (length c.args.bytes.now) in
    tables_after_put c.self.inside.code.items (memory_of c.self.inside.memory) (memory_of c.put.new.self) c.self.inside.near c.self.inside.others.items addresses
    c.args.bytes.now (ap (λ (held : Contents). first_shut (memory_of held.memory) addresses) c.self.view_is ∙ c.requires) c.put.ensures.put c.self.invariant

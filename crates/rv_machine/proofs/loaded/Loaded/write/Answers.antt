use Rattle.rv_code.specs.Numbers.{bytes_of}
use Rattle.rv_memory.specs.Memory.{span}
use Rattle.rv_machine.proofs.Fixed.{tables_after_write}
use Rattle.rv_machine.proofs.loaded.Loaded.write.Goals as goal

pub invariant_of-self : goal.invariant_of-self
invariant_of-self c =
    tables_after_write c.self.inside.code.items c.self.inside.memory c.write.new.self c.self.inside.near c.self.inside.others.items (span c.args.address c.args.size)
    (bytes_of c.args.size c.args.value) c.write.result c.write.ensures.answer c.write.ensures.put c.write.ensures.kept c.self.invariant

use Rattle.std.proofs.Common.{List, sym, ◌∙◌, subst}
use Rattle.std.specs.Prelude.{IfSome}
use Rattle.std.proofs.lemmas.List.{with_items_is}
use Rattle.rv_memory.specs.Stretches.{memory_of}
use Rattle.rv_machine.specs.declared.table.Table.{Table}
use Rattle.rv_machine.specs.Inner.Decoded.{AreTables, Contents, IsInstr}
use Rattle.rv_machine.proofs.loaded.Loaded.decoded_at.Goals as goal

-- what the search for a table leaves and answers
found : (c : goal.After-self-1) → AreTables c.self.inside.code.items (memory_of c.self.inside.memory) c.look_for.new.near c.look_for.new.tables
    × IfSome c.look_for.result (λ instr. IsInstr c.self.inside.code.items (memory_of c.self.inside.memory) c.args.address instr)
found c =
    c.look_for.ensures.found c.self.inside.code.items (memory_of c.self.inside.memory)
    (subst (λ (tables : List Table). AreTables c.self.inside.code.items (memory_of c.self.inside.memory) c.self.inside.near tables) (sym c.deref_mut.ensures.value) c.self.invariant)

pub invariant_of-self : goal.invariant_of-self
invariant_of-self c =
    subst (λ (tables : List Table). AreTables c.self.inside.code.items (memory_of c.self.inside.memory) c.look_for.new.near tables)
    (sym (with_items_is c.self.inside.others c.look_for.new.tables (c.look_for.ensures.count ∙ c.deref_mut.ensures.len))) (found c).0

pub returns-clause-found : goal.returns-clause-found
returns-clause-found c = subst (λ (held : Contents). IfSome c.look_for.result (λ instr. IsInstr held.code (memory_of held.memory) c.args.address instr)) c.self.view_is (found c).1

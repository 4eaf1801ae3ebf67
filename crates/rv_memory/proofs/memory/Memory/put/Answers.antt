use Rattle.std.proofs.Common.{◌≡◌, ◌++◌, List, take, drop, length, sym, ap, ◌∙◌, subst}
use Rattle.std.proofs.lemmas.List.{take_at}
use Rattle.rv_memory.specs.Stretches.{MappedStretch}
use Rattle.rv_memory.specs.Outline.{outline, AreInOrder}
use Rattle.rv_memory.proofs.WrittenBytes.{order_kept}
use Rattle.rv_memory.proofs.memory.Memory.put.Goals as goal

pub invariant_of-self : goal.invariant_of-self
invariant_of-self c =
    let stretches : List MappedStretch = c.self.inside.stretches.items in
    let changed : List MappedStretch = c.store_all.new.stretches in
    let whole : take c.self.inside.stretches.len (changed ++ drop (length changed) stretches) ≡ changed =
    take_at changed (drop (length changed) stretches) c.self.inside.stretches.len (c.store_all.auto.stretches ∙ c.deref_mut.ensures.len) in
    subst (λ xs. AreInOrder xs) (sym whole) (order_kept stretches changed (c.store_all.ensures.outline ∙ ap outline c.deref_mut.ensures.value) c.self.invariant)

-- What is popped was marked.
use Rattle.std.proofs.Common.{◌<◌, List, ℕ, length, subst, ap, rules}
use Rattle.need_sets.specs.Inner.Waiting.{AreMarked, WaitingParts}
use Rattle.need_sets.proofs.Queued.{popped_is_marked, popped_within}
use Rattle.need_sets.proofs.waiting.Waiting.take.Goals as goal

pub index_mut-requires : goal.index_mut-requires
index_mut-requires c =
    let inside : c.in_ok-place.place < length c.self.inside.marks.items =
    popped_within c.pop.new.self.items c.self.inside.marks.items c.in_ok-place.place
    (subst (λ (places : List ℕ). AreMarked places c.self.inside.marks.items) c.in_ok-place.ensures.items c.self.invariant)
    in
    search rules

pub invariant_of-self-2 : goal.invariant_of-self-2
invariant_of-self-2 c =
    popped_is_marked c.pop.new.self.items c.self.inside.marks.items c.in_ok-place.place
    (subst (λ (places : List ℕ). AreMarked places c.self.inside.marks.items) c.in_ok-place.ensures.items c.self.invariant)

pub returns-clause-within : goal.returns-clause-within
returns-clause-within c =
    let size = ap (λ (waiting : WaitingParts). waiting.size) c.self.view_is in
    let inside : c.in_ok-place.place < length c.self.inside.marks.items =
    popped_within c.pop.new.self.items c.self.inside.marks.items c.in_ok-place.place
    (subst (λ (places : List ℕ). AreMarked places c.self.inside.marks.items) c.in_ok-place.ensures.items c.self.invariant)
    in
    subst (λ n. c.in_ok-place.place < n) size inside

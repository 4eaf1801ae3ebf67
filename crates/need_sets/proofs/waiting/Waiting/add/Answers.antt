-- What is pushed is marked.
use Rattle.std.proofs.Common.{◌<◌, List, ℕ, length, true, set, sym, subst, rules}
use Rattle.need_sets.specs.Inner.Waiting.{AreMarked}
use Rattle.need_sets.proofs.Queued.{pushed_is_marked}
use Rattle.need_sets.proofs.waiting.Waiting.add.Goals as goal

pub invariant_of-self : goal.invariant_of-self
invariant_of-self c =
    subst (λ (places : List ℕ). AreMarked places c.self.inside.marks.items) (sym c.in_err-push.ensures.items) c.self.invariant

pub invariant_of-self-then-not-index : goal.invariant_of-self-then-not-index
invariant_of-self-then-not-index c =
    let inside : c.args.place < length c.self.inside.marks.items = search rules in
    subst (λ (places : List ℕ). AreMarked places (set c.self.inside.marks.items c.args.place true)) (sym c.in_ok-push.ensures.items)
    (pushed_is_marked c.self.inside.places.items c.self.inside.marks.items c.args.place inside c.self.invariant)

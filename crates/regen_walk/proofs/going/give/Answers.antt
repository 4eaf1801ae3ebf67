use Rattle.std.proofs.Common.{Option, sym, subst}
use Rattle.std.specs.Prelude.{OnOk, OnErr}
use Rattle.ae_nums.specs.declared.item.Item.{Item}
use Rattle.ae_nums.specs.declared.item.Item.TheVariants.{Fetch}
use Rattle.rv_machine.specs.Outcomes.{TookFront}
use Rattle.regen_walk.specs.Inner.Going.{items_at}
use Rattle.regen_walk.proofs.Gave.{all_of_two, front_of_two}
use Rattle.regen_walk.proofs.going.give.Goals as goal

pub returns-in-Some-clause-all : goal.returns-in-Some-clause-all
returns-in-Some-clause-all g c =
    let before = c.args.items.now in
    subst (λ (access : Option Item). OnOk c.take-in-Some.result (g.K.Taker.took before c.take-in-Some.new.self (items_at c.args.address access))) (sym c.in-Some.is)
    (all_of_two (Fetch c.args.address) c.in-Some.item (g.K.Taker.took before c.take.new.self) (g.K.Taker.took c.take.new.self c.take-in-Some.new.self) (g.K.Taker.took before c.take-in-Some.new.self)
    (λ xs ys one two. g.met.K.Taker.took_both before c.take.new.self c.take-in-Some.new.self xs ys one two) c.in_ok-take.ensures.content c.take-in-Some.result c.take-in-Some.ensures.content)

pub returns-in-Some-clause-front : goal.returns-in-Some-clause-front
returns-in-Some-clause-front g c =
    let before = c.args.items.now in
    subst (λ (access : Option Item). OnErr c.take-in-Some.result (TookFront (g.K.Taker.took before c.take-in-Some.new.self) (items_at c.args.address access))) (sym c.in-Some.is)
    (front_of_two (Fetch c.args.address) c.in-Some.item (g.K.Taker.took before c.take.new.self) (g.K.Taker.took c.take.new.self c.take-in-Some.new.self) (g.K.Taker.took before c.take-in-Some.new.self)
    (λ xs ys one two. g.met.K.Taker.took_both before c.take.new.self c.take-in-Some.new.self xs ys one two) c.in_ok-take.ensures.content c.take-in-Some.result c.take-in-Some.ensures.content)

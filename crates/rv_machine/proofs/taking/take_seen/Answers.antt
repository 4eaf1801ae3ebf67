use Rattle.std.proofs.Common.{subst, ◌++◌}
use Rattle.std.specs.Option.{option_to_list}
use Rattle.std.specs.Result.{OnErr}
use Rattle.rv_machine.specs.Outcomes.{TookFront}
use Rattle.rv_machine.proofs.Gone.{front_after}
use Rattle.rv_machine.proofs.taking.take_seen.Goals as goal

pub returns-clause-front : goal.returns-clause-front
returns-clause-front g c =
    let taker = c.args.items.now in
    subst (λ item. OnErr c.take_some-2.result (TookFront (g.K.Taker.took taker c.take_some-2.new.items) (option_to_list item ++ option_to_list c.args.seen.access))) c.fetch_in.ensures
    (front_after c.take_some-2.result (option_to_list c.fetch_in.result) (option_to_list c.args.seen.access) (g.K.Taker.took taker c.take_some.new.items) (g.K.Taker.took c.take_some.new.items c.take_some-2.new.items) (g.K.Taker.took taker c.take_some-2.new.items)
    (λ first second f h. g.met.K.Taker.took_both taker c.take_some.new.items c.take_some-2.new.items first second f h) c.in_ok-take_some.ensures.all c.take_some-2.ensures.front)

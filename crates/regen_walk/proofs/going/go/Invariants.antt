use Rattle.std.proofs.Common.{◌≡◌, List}
use Rattle.ae_nums.specs.declared.item.Item.{Item}
use Rattle.regen_walk.specs.Inner.OnTheWay.{IsOnTheWay}
use Rattle.regen_walk.proofs.going.go.Given as goal

abbrev pub invariant-loop : goal.invariant-loop
invariant-loop g l =
    (given : List Item)
    × IsOnTheWay l.schema l.paths l.fn.from l.goal l.spot l.fn.registers l.registers given l.counter
    × g.K.Taker.took l.fn.items l.items given
    × (g.K.Taker.faults l.items ≡ g.K.Taker.faults l.fn.items)
    × g.K.Taker.same_rest l.fn.items l.items

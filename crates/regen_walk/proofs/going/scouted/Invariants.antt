use Rattle.std.proofs.Common.{List}
use Rattle.ae_nums.specs.declared.item.Item.{Item}
use Rattle.regen_walk.specs.Inner.OnTheWay.{IsOnTheWay}
use Rattle.regen_walk.proofs.going.scouted.Given as goal

abbrev pub invariant-loop : goal.invariant-loop
invariant-loop l = (items : List Item) × IsOnTheWay l.schema l.paths l.fn.from l.goal l.spot l.fn.registers l.registers items l.counter

use Rattle.std.proofs.Common.{set, ap}
use Rattle.rv_machine.specs.Inner.Decoded.{AreTables}
use Rattle.rv_machine.proofs.Fixed.{tables_swapped}
use Rattle.rv_machine.proofs.table.look_for.Goals as goal

pub returns-clause-found : goal.returns-clause-found
returns-clause-found c = λ code memory all.
    let swapped : AreTables code memory c.swap.new.x _ =
    tables_swapped code memory c.args.near.now c.swap.new.x c.args.tables.now _ c.in_ok-number.number c.index-tables-number.result c.in_ok-number.ensures
    c.swap.ensures.x_after (ap (set c.args.tables.now c.in_ok-number.number) c.swap.ensures.y_after) all in
    (swapped, c.at.ensures code memory swapped.0)

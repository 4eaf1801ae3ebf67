use Rattle.std.proofs.Common.{sym, arith}
use Rattle.rv_code.specs.Code.{extents_of}
use Rattle.rv_code.proofs.LawsOfLookUps.{place_of-below}
use Rattle.rv_code.proofs.LawsOfPlaces.{length-code_addresses_of_ranges}
use Rattle.schema_form.proofs.RecordedWays.{set_there, set_nowhere}
use Rattle.schema_form.proofs.of_image.set_cell.Goals as goal

pub bounds-cells-place : goal.bounds-cells-place
bounds-cells-place c =
    let code = c.args.graph.now.code in
    let below = place_of-below (extents_of code) c.in-Some.place c.args.address (sym c.in-Some.ensures.place) in
    omega (arith, below, length-code_addresses_of_ranges code, c.requires.cells)

pub returns-in-Some-clause-set : goal.returns-in-Some-clause-set
returns-in-Some-clause-set c =
    let code = c.args.graph.now.code in
    let below = place_of-below (extents_of code) c.in-Some.place c.args.address (sym c.in-Some.ensures.place) in
    set_there (extents_of code) c.args.cells.now c.args.address c.in-Some.place c.requires.order.rise (sym c.in-Some.ensures.place)
    (omega (arith, below, length-code_addresses_of_ranges code, c.requires.cells))

pub returns-in_default-clause-set : goal.returns-in_default-clause-set
returns-in_default-clause-set c =
    set_nowhere (extents_of c.args.graph.now.code) c.args.cells.now c.args.address c.requires.order.rise (sym c.in_default.ensures.place)

use Rattle.regen_path.proofs.Tall.{HeightsTo}
use Rattle.regen_path.proofs.heights.heights_of.Given as goal

abbrev pub invariant-loop-number : goal.invariant-loop-number
invariant-loop-number l = HeightsTo l.visits l.lasts l.number l.heights.items

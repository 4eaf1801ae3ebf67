use Rattle.std.proofs.Common.{◌∙◌, ap, sym}
use Rattle.ae_nums.proofs.LawsOfRegisters.{registers_of-none}
use Rattle.ev_format.specs.Shapes.{registers_needed}
use Rattle.regen_walk.proofs.telling.needed_at.Goals as goal

pub returns-in-None-clause-numbers : goal.returns-in-None-clause-numbers
returns-in-None-clause-numbers c =
    registers_of-none ∙ ap registers_needed (sym c.in-None.is ∙ c.needs.ensures)

use Rattle.std.proofs.Common.{sym, ap, ◌∙◌}
use Rattle.std.specs.Prelude.{is_some}
use Rattle.rv_code.specs.Parts.{base_of}
use Rattle.regen_walk.proofs.Told.{tells_alone}
use Rattle.regen_walk.proofs.telling.asks_registers.Goals as goal

pub returns-in-End : goal.returns-in-End
returns-in-End c = λ none parts address is same one other.
    tells_alone parts address c.args.met is one other c.args.rec.now same
    (λ from kind detail rec. sym (c.is_some.ensures ∙ ap is_some (c.base.ensures ∙ ap base_of c.decode.ensures.meaning)) ∙ none)

pub returns-in_default : goal.returns-in_default
returns-in_default c = λ none parts address is same one other.
    tells_alone parts address c.args.met is one other c.args.rec.now same (λ from kind detail rec. absurd (c.in_default.not-End from kind detail rec))

use Rattle.std.proofs.Common.{◌≡◌, ℕ, List, Some, sym, ap, ◌∙◌}
use Rattle.regen_walk.specs.declared.position.Position.TheVariants.{Before}
use Rattle.regen_walk.specs.Inner.Telling.{may_tell}
use Rattle.regen_walk.specs.Moves.{Moved}
use Rattle.regen_walk.proofs.walk.may_tell_there.Goals as goal

pub returns : goal.returns
returns c = λ walk walks there items goes.
    let scout = c.scouted-there.ensures walk walks in
    let first : Moved = record { items = items; position = Before c.args.goal.address; registers = there } in
    let second : Moved = record { items = scout.0; position = Before c.args.goal.address; registers = c.scouted-there.result } in
    let joined : Some first ≡ Some second = sym goes ∙ scout.1 in
    let same : first ≡ second = cc in
    c.may_tell.ensures ∙ ap (λ (registers : List ℕ). may_tell c.args.schema.now c.args.goal.address registers c.args.rec.now) (sym (ap (λ (m : Moved). m.registers) same))

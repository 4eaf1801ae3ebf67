use Rattle.std.proofs.Common.{◌≡◌, ℕ, List, refl, ap, subst}
use Rattle.regen_walk.specs.declared.position.Position.TheVariants.{Before}
use Rattle.regen_walk.specs.Moves.{Moved}
use Rattle.regen_walk.specs.Promises.{Tells}
use Rattle.regen_walk.specs.WalkView.{WalkParts}
use Rattle.regen_walk.proofs.walk.Walk.advance_from.Goals as goal

pub returns-in_default-clause-moves : goal.returns-in_default-clause-moves
returns-in_default-clause-moves g c =
    let registers : c.self.inside.registers ≡ c.args.self.now.registers = ap (λ (parts : WalkParts). parts.registers) c.self.view_is in
    record {
      none = subst (λ (list : List ℕ). (moved : Moved) → Tells c.args.schema.now (Before c.args.from.address) list c.args.rec.now moved → ⊥) registers c.in_default.ensures.none;
      same = refl;
    }

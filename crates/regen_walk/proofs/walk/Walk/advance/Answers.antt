use Rattle.std.proofs.Common.{ap, sym, ◌∙◌}
use Rattle.regen_walk.specs.WalkView.{WalkParts}
use Rattle.regen_walk.proofs.Elsewhere.{from_outside, from_stopped}
use Rattle.regen_walk.proofs.walk.Walk.advance.Goals as goal

pub returns-in-Outside-clause-moves : goal.returns-in-Outside-clause-moves
returns-in-Outside-clause-moves g c =
    from_outside c.args.schema.now c.args.self.now c.args.rec.now c.in-Outside.target (g.K.Taker.took c.args.items.now c.args.items.now) c.end_outside.new.self c.end_outside.result
    (sym (ap (λ (parts : WalkParts). parts.position) c.self.view_is) ∙ c.in-Outside.is) (g.met.K.Taker.took_nothing c.args.items.now) c.end_outside.ensures.stops c.end_outside.ensures.none
    c.end_outside.ensures.astray c.end_outside.ensures.stopped c.end_outside.ensures.same

pub returns-in-Stopped-clause-moves : goal.returns-in-Stopped-clause-moves
returns-in-Stopped-clause-moves g c =
    from_stopped c.args.schema.now c.args.self.now c.args.rec.now (sym (ap (λ (parts : WalkParts). parts.position) c.self.view_is) ∙ c.in-Stopped.is)

use Rattle.std.proofs.Common.{[], refl, ap}
use Rattle.regen_walk.specs.WalkView.{WalkParts}
use Rattle.regen_walk.proofs.Elsewhere.{over_none, over_quietly, over_told}
use Rattle.regen_walk.proofs.walk.Walk.advance_over.Goals as goal

pub returns-in-Quiet-clause-moves : goal.returns-in-Quiet-clause-moves
returns-in-Quiet-clause-moves g c =
    over_quietly c.args.schema.now c.args.spot.address c.args.taken c.args.rec.now c.in-Quiet.next c.in-Quiet.ensures c.args.self.now (g.K.Taker.took c.args.items.now c.advance_from.new.items)
    c.advance_from.new.self c.advance_from.result c.advance_from.ensures.moves

pub returns-in-Told-clause-moves : goal.returns-in-Told-clause-moves
returns-in-Told-clause-moves g c = (
  record { items = []; position = c.in-Told.stand.position; registers = c.args.self.now.registers },
  over_told c.args.schema.now c.args.spot.address c.args.taken c.args.rec.now c.in-Told.stand c.in-Told.ensures c.args.self.now.registers,
  record {
    given = g.met.K.Taker.took_nothing c.args.items.now;
    position = refl;
    registers = ap (λ (parts : WalkParts). parts.registers) c.self.view_is;
  },
)

pub returns-in-Astray-clause-moves : goal.returns-in-Astray-clause-moves
returns-in-Astray-clause-moves g c =
    record { none = over_none c.args.schema.now c.args.spot.address c.args.taken c.args.rec.now c.in-Astray.ensures c.args.self.now.registers; same = refl }

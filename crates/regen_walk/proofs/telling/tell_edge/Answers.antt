use Rattle.std.proofs.Common.{refl, sym, subst, ◌∙◌}
use Rattle.std.specs.Prelude.{IsSome}
use Rattle.ae_ports.proofs.LawsOfFaults.{OnErr-always}
use Rattle.regen_walk.specs.Inner.Going.{items_at}
use Rattle.regen_walk.specs.Inner.Telling.{edge_record, HasBrokenOff}
use Rattle.regen_walk.specs.Moves.{placed_at}
use Rattle.regen_walk.proofs.Carried.{carried}
use Rattle.regen_walk.proofs.Tellings.{edge_quiet, edge_marked, edge_made}
use Rattle.regen_walk.proofs.telling.tell_edge.Goals as goal

pub unwrap-next-requires : goal.unwrap-next-requires
unwrap-next-requires g c =
    let marked = edge_marked c.args.schema.now c.args.spot.address c.args.met c.requires.met c.args.taken c.args.registers.now c.requires.may in
    subst IsSome (sym c.way_by.ensures) (c.requires.met.marked c.args.taken marked)

pub returns-in_err-give-clause-front : goal.returns-in_err-give-clause-front
returns-in_err-give-clause-front g c =
    let quiet = edge_quiet c.args.schema.now c.args.spot.address c.args.met c.requires.met c.args.taken c.args.registers.now c.requires.may in
    let marked = edge_marked c.args.schema.now c.args.spot.address c.args.met c.requires.met c.args.taken c.args.registers.now c.requires.may in
    let now = c.carry_out-access.new.registers in
    let access = c.carry_out-access.result in
    let position = placed_at c.args.schema.now c.unwrap-next.result in
    let broken : HasBrokenOff c.args.schema.now c.args.spot.address c.args.registers.now (edge_record c.args.taken c.args.spot.address) (g.K.Taker.took c.args.items.now c.give.new.items) =
    record {
      moved = record { items = items_at c.args.spot.address access; position = position; registers = now };
      made =
          edge_made c.args.schema.now c.args.spot.address c.args.met c.requires.met c.args.taken c.args.registers.now now access quiet marked (carried c.args.schema.now c.args.spot.address c.args.met c.requires.met c.args.instr.now c.requires.decoded.meaning c.args.registers.now now access c.carry_out-access.ensures.access c.carry_out-access.ensures.registers) c.unwrap-next.result position
          (sym c.way_by.ensures ∙ c.unwrap-next.ensures) refl;
      front = c.in_err-give.ensures.front;
    }
    in
    OnErr-always _ _ broken

pub returns-clause-all : goal.returns-clause-all
returns-clause-all g c =
    let quiet = edge_quiet c.args.schema.now c.args.spot.address c.args.met c.requires.met c.args.taken c.args.registers.now c.requires.may in
    let marked = edge_marked c.args.schema.now c.args.spot.address c.args.met c.requires.met c.args.taken c.args.registers.now c.requires.may in
    let now = c.carry_out-access.new.registers in
    let access = c.carry_out-access.result in
    record {
      moved = record { items = items_at c.args.spot.address access; position = c.placed_at.result.position; registers = now };
      made =
          edge_made c.args.schema.now c.args.spot.address c.args.met c.requires.met c.args.taken c.args.registers.now now access quiet marked (carried c.args.schema.now c.args.spot.address c.args.met c.requires.met c.args.instr.now c.requires.decoded.meaning c.args.registers.now now access c.carry_out-access.ensures.access c.carry_out-access.ensures.registers) c.unwrap-next.result
          c.placed_at.result.position (sym c.way_by.ensures ∙ c.unwrap-next.ensures) c.placed_at.ensures.position;
      given = c.in_ok-give.ensures.all;
      position = refl;
      registers = refl;
      placed = c.placed_at.ensures.placed;
    }

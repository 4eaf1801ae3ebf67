use Rattle.std.proofs.Common.{refl}
use Rattle.ae_ports.proofs.LawsOfFaults.{OnErr-always}
use Rattle.ev_format.specs.declared.record.Record.TheVariants as records
use Rattle.regen_walk.specs.Inner.Telling.{HasBrokenOff}
use Rattle.regen_walk.specs.Moves.{ends_at}
use Rattle.regen_walk.proofs.Tellings.{end_made}
use Rattle.regen_walk.proofs.telling.tell_end.Goals as goal

pub returns-in_err-give-clause-front : goal.returns-in_err-give-clause-front
returns-in_err-give-clause-front g c =
    let broken : HasBrokenOff c.args.schema.now c.args.spot.address c.args.registers.now (records.End c.args.spot.address c.args.kind c.args.detail) (g.K.Taker.took c.args.items.now c.give.new.items) =
    record {
      moved = ends_at c.args.spot.address c.args.registers.now;
      made = end_made c.args.schema.now c.args.spot.address c.args.met c.requires.met c.args.registers.now c.args.spot.address c.args.kind c.args.detail c.requires.may;
      front = c.in_err-give.ensures.front;
    }
    in
    OnErr-always _ _ broken

pub returns-clause-all : goal.returns-clause-all
returns-clause-all g c =
    record {
      moved = ends_at c.args.spot.address c.args.registers.now;
      made = end_made c.args.schema.now c.args.spot.address c.args.met c.requires.met c.args.registers.now c.args.spot.address c.args.kind c.args.detail c.requires.may;
      given = c.in_ok-give.ensures.all;
      position = refl;
      registers = refl;
      placed = tt;
    }

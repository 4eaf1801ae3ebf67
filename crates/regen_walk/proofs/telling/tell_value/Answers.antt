use Rattle.std.proofs.Common.{Option, Some, refl, sym, ap, ◌∙◌, false}
use Rattle.ae_nums.specs.declared.item.Item.{Item}
use Rattle.ae_ports.proofs.LawsOfFaults.{OnErr-always}
use Rattle.rv_code.specs.declared.instr.Instr.{Instr}
use Rattle.rv_code.specs.Table.{meaning_of}
use Rattle.ev_format.specs.declared.record.Record.TheVariants as records
use Rattle.regen_walk.specs.Accesses.{access_by, with_written}
use Rattle.regen_walk.specs.Inner.Telling.{HasBrokenOff}
use Rattle.regen_walk.specs.Moves.{goes_on}
use Rattle.regen_walk.proofs.Tellings.{value_made}
use Rattle.regen_walk.proofs.telling.tell_value.Goals as goal

pub returns-in_err-give-clause-front : goal.returns-in_err-give-clause-front
returns-in_err-give-clause-front g c =
    let made = value_made c.args.schema.now c.args.spot.address c.args.met c.requires.met c.args.registers.now c.args.spot.address c.args.value c.requires.may in
    let access = c.access_by-access.ensures ∙ ap (λ (instr : Instr). access_by instr c.args.registers.now) c.requires.decoded.meaning in
    let after = with_written (meaning_of c.args.met.word.raw) c.args.registers.now c.args.value in
    let broken : HasBrokenOff c.args.schema.now c.args.spot.address c.args.registers.now (records.Value c.args.spot.address c.args.value) (g.K.Taker.took c.args.items.now c.give.new.items) =
    record {
      moved = goes_on c.args.spot.address c.access_by-access.result false after;
      made = made ∙ ap (λ (a : Option Item). Some (goes_on c.args.spot.address a false after)) (sym access);
      front = c.in_err-give.ensures.front;
    }
    in
    OnErr-always _ _ broken

pub returns-clause-all : goal.returns-clause-all
returns-clause-all g c =
    let made = value_made c.args.schema.now c.args.spot.address c.args.met c.requires.met c.args.registers.now c.args.spot.address c.args.value c.requires.may in
    let access = c.access_by-access.ensures ∙ ap (λ (instr : Instr). access_by instr c.args.registers.now) c.requires.decoded.meaning in
    let after = with_written (meaning_of c.args.met.word.raw) c.args.registers.now c.args.value in
    record {
      moved = goes_on c.args.spot.address c.access_by-access.result false after;
      made = made ∙ ap (λ (a : Option Item). Some (goes_on c.args.spot.address a false after)) (sym access);
      given = c.in_ok-give.ensures.all;
      position = refl;
      registers = c.put_written.ensures ∙ ap (λ (instr : Instr). with_written instr c.args.registers.now c.args.value) c.requires.decoded.meaning;
      placed = c.requires.spot;
    }

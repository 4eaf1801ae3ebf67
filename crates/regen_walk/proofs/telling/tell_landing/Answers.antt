use Rattle.std.proofs.Common.{◌+◌, ℕ, List, length, sym, ap, ◌∙◌}
use Rattle.ae_nums.specs.Registers.{registers_of}
use Rattle.ae_ports.proofs.LawsOfFaults.{OnErr-always}
use Rattle.rv_code.specs.declared.instr.Instr.{Instr}
use Rattle.rv_code.specs.Table.{meaning_of}
use Rattle.ev_format.specs.declared.record.Record.TheVariants as records
use Rattle.regen_walk.specs.Accesses.{with_written}
use Rattle.regen_walk.specs.Inner.Telling.{HasBrokenOff}
use Rattle.regen_walk.specs.Moves.{lands, needed_at}
use Rattle.regen_walk.specs.Registers.{with_values}
use Rattle.regen_walk.proofs.Tellings.{landing_count, landing_made}
use Rattle.regen_walk.proofs.telling.tell_landing.Goals as goal

pub put_values-requires : goal.put_values-requires
put_values-requires g c =
    ap length c.words.ensures.same
    ∙ landing_count c.args.schema.now c.args.address c.args.met c.requires.met c.args.registers.now c.args.target c.args.values.now c.requires.may
    ∙ ap length (sym c.needed_at.ensures.numbers)

pub returns-in_err-give-clause-front : goal.returns-in_err-give-clause-front
returns-in_err-give-clause-front g c =
    let after = with_written (meaning_of c.args.met.word.raw) c.args.registers.now (c.args.address + 4) in
    let broken : HasBrokenOff c.args.schema.now c.args.address c.args.registers.now (records.Landing c.args.address c.args.target c.args.values.now) (g.K.Taker.took c.args.items.now c.give.new.items) =
    record {
      moved = lands c.args.schema.now c.args.address c.args.target c.args.values.now after;
      made = landing_made c.args.schema.now c.args.address c.args.met c.requires.met c.args.registers.now c.args.address c.args.target c.args.values.now c.requires.may;
      front = c.in_err-give.ensures.front;
    }
    in
    OnErr-always _ _ broken

pub returns-clause-all : goal.returns-clause-all
returns-clause-all g c =
    let after = with_written (meaning_of c.args.met.word.raw) c.args.registers.now (c.args.address + 4) in
    record {
      moved = lands c.args.schema.now c.args.address c.args.target c.args.values.now after;
      made = landing_made c.args.schema.now c.args.address c.args.met c.requires.met c.args.registers.now c.args.address c.args.target c.args.values.now c.requires.may;
      given = c.in_ok-give.ensures.all;
      position = c.placed_at.ensures.position;
      registers =
          c.put_values.ensures
          ∙ ap (λ (registers : List ℕ). with_values registers (registers_of c.needed_at.result) c.words.result.now)
          (c.put_link.ensures ∙ ap (λ (instr : Instr). with_written instr c.args.registers.now (c.args.address + 4)) c.requires.decoded.meaning)
          ∙ ap (λ (numbers : List ℕ). with_values after numbers c.words.result.now) c.needed_at.ensures.numbers
          ∙ ap (with_values after (needed_at c.args.schema.now c.args.target)) c.words.ensures.same;
      placed = c.placed_at.ensures.placed;
    }

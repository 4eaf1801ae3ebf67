-- What the word then has, and that it is so.
use Rattle.std.proofs.Common.{◌≡◌, Some, length, sym, ap, ◌∙◌, arith}
use Rattle.std.specs.Option.{option_map}
use Rattle.std.proofs.lemmas.Result.{on_ok_weaker}
use Rattle.rv_code.specs.Table.{meaning_of}
use Rattle.flow_graph.specs.CodeParts.{instr_in}
use Rattle.need_sets.proofs.Passing.{on_ok_both, passed_here, sound_here}
use Rattle.need_sets.proofs.Spread.{spreads_on}
use Rattle.need_sets.proofs.search.Search.pass_to.Goals as goal

pub returns-clause-spreads : goal.returns-clause-spreads
returns-clause-spreads c = on_ok_weaker c.need.result (spreads_on c.args.self.now c.mark.new.self c.need.new.self c.mark.ensures.spreads) c.need.ensures.spreads

pub returns-clause-passed : goal.returns-clause-passed
returns-clause-passed c =
    let is : instr_in c.args.ranges.now c.address_at.result ≡ Some c.decode-instr.result =
    ap (option_map meaning_of) (sym c.in-Some.ensures) ∙ ap Some (sym c.decode-instr.ensures.meaning)
    in
    on_ok_both c.need.result c.need.ensures.masks c.need.ensures.used
    (passed_here c.args.ranges.now c.args.place c.args.behind c.address_at.result c.needed_before.result c.decode-instr.result c.mark.new.self c.need.new.self
    c.address_at.ensures is c.needed_before.ensures c.mark.ensures.marked (omega (arith, c.requires.within, c.requires.sized.masks, ap length c.mark.ensures.masks)))

pub returns-clause-sound : goal.returns-clause-sound
returns-clause-sound c = λ bases taken goal led all sound.
    let is : instr_in c.args.ranges.now c.address_at.result ≡ Some c.decode-instr.result =
    ap (option_map meaning_of) (sym c.in-Some.ensures) ∙ ap Some (sym c.decode-instr.ensures.meaning)
    in
    on_ok_both c.need.result c.need.ensures.masks c.need.ensures.used
    (λ masks used. sound_here c.args.ranges.now bases taken c.args.place goal c.args.behind c.address_at.result c.needed_before.result c.decode-instr.result c.args.self.now c.mark.new.self c.need.new.self
    c.address_at.ensures is c.needed_before.ensures led all (omega (arith, c.requires.within, c.requires.sized.masks, ap length c.mark.ensures.masks)) c.mark.ensures.masks c.mark.ensures.others masks used sound)

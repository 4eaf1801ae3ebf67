use Rattle.std.proofs.Common.{arith}
use Rattle.rv_code.specs.declared.instr.Instr.TheVariants.{Lui}
use Rattle.regen_walk.proofs.WordsDecoded.{as_many, decoded_at, met_stands}
use Rattle.regen_walk.proofs.WordsMet.{met_of, place_within}
use Rattle.regen_walk.proofs.decoded.instr_at.Goals as goal

pub bounds-instrs-spot : goal.bounds-instrs-spot
bounds-instrs-spot c =
    omega (arith, as_many c.args.schema.now.words c.args.instrs.now c.requires.decoded, place_within c.args.schema.now c.requires.valid c.args.spot c.requires.spot)

pub returns-clause-decoded : goal.returns-clause-decoded
returns-clause-decoded c = λ met is.
    let parts = c.args.schema.now in
    decoded_at parts.words c.args.instrs.now c.args.spot.place met.word (Lui 0 0) c.requires.decoded (met_stands parts c.args.spot met c.requires.spot is)

pub returns-clause-registers : goal.returns-clause-registers
returns-clause-registers c =
    let parts = c.args.schema.now in
    let m = met_of parts c.requires.valid c.args.spot c.requires.spot in
    (decoded_at parts.words c.args.instrs.now c.args.spot.place m.0.word (Lui 0 0) c.requires.decoded (met_stands parts c.args.spot m.0 c.requires.spot m.1)).registers

pub returns-clause-fits : goal.returns-clause-fits
returns-clause-fits c =
    let parts = c.args.schema.now in
    let m = met_of parts c.requires.valid c.args.spot c.requires.spot in
    (decoded_at parts.words c.args.instrs.now c.args.spot.place m.0.word (Lui 0 0) c.requires.decoded (met_stands parts c.args.spot m.0 c.requires.spot m.1)).fits

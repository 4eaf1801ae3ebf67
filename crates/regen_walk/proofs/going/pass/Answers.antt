use Rattle.std.proofs.Common.{sym, ap, ◌∙◌}
use Rattle.std.specs.Prelude.{is_some}
use Rattle.rv_code.specs.declared.instr.Instr.{Instr}
use Rattle.rv_code.specs.Parts.{target_of}
use Rattle.regen_walk.proofs.Carried.{carried}
use Rattle.regen_walk.proofs.Passing.{led_there, passes, quiet_step, way_there}
use Rattle.regen_walk.proofs.WordsMet.{met_of}
use Rattle.regen_walk.proofs.going.pass.Goals as goal

pub led_to-requires : goal.led_to-requires
led_to-requires c = λ taken.
    let parts = c.args.schema.now in
    let m = met_of parts c.requires.valid c.args.spot.now c.requires.spot in
    let means = (c.instr_at-instr.ensures.decoded m.0 m.1).meaning in
    let step = quiet_step parts c.requires.valid c.args.spot.now c.requires.spot m.0 m.1 c.args.paths.now c.args.onward.taken c.args.onward.place c.requires.ways c.requires.arc in
    ap is_some (ap (λ (instr : Instr). target_of instr c.args.spot.now.address) means ∙ way_there c.args.onward.taken m.0.class m.0.word.raw c.args.spot.now.address step.target step.way taken)

pub returns-clause-moves : goal.returns-clause-moves
returns-clause-moves c =
    let parts = c.args.schema.now in
    let at = c.args.spot.now.address in
    let m = met_of parts c.requires.valid c.args.spot.now c.requires.spot in
    let means = (c.instr_at-instr.ensures.decoded m.0 m.1).meaning in
    let step = quiet_step parts c.requires.valid c.args.spot.now c.requires.spot m.0 m.1 c.args.paths.now c.args.onward.taken c.args.onward.place c.requires.ways c.requires.arc in
    let target = led_there c.args.onward.taken m.0.class m.0.word.raw at step.target c.led_to.result step.way
    (λ taken. ap (λ (instr : Instr). target_of instr at) (sym means) ∙ c.led_to.ensures.taken taken) c.led_to.ensures.falls
    in
    passes parts c.requires.valid c.args.spot.now c.requires.spot m.0 m.1 c.args.onward.taken c.args.onward.place c.led_to.result step c.args.registers.now c.carry_out-access.new.registers c.carry_out-access.result target
    (carried parts at m.0 m.1 c.instr_at-instr.result means c.args.registers.now c.carry_out-access.new.registers c.carry_out-access.result c.carry_out-access.ensures.access c.carry_out-access.ensures.registers)

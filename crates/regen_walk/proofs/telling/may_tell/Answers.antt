use Rattle.std.proofs.Common.{true, false, sym, ap, ◌∙◌}
use Rattle.std.specs.Prelude.{◌&&◌, ◌==◌, ◌%◌, length}
use Rattle.ev_format.specs.Shapes.{value_count}
use Rattle.rv_code.specs.declared.instr.Instr.{Instr}
use Rattle.rv_code.specs.Table.{meaning_of}
use Rattle.ev_format.specs.Spelling.{address_in}
use Rattle.schema_form.specs.LookUps.{gives_value, schema_shape}
use Rattle.regen_walk.specs.Accesses.{may_end}
use Rattle.regen_walk.specs.FreeArcs.{goes_quietly}
use Rattle.regen_walk.specs.Inner.Telling.{may_tell}
use Rattle.regen_walk.proofs.Told.{tells_value, tells_end, tells_landing, tells_edge, tells_no_edge}
use Rattle.regen_walk.proofs.telling.may_tell.Goals as goal

pub returns-then-goes_quietly : goal.returns-then-goes_quietly
returns-then-goes_quietly c =
    c.is_marked.ensures
    ∙ sym (ap (may_tell c.args.schema.now c.args.address c.args.registers.now) c.in-Fall.is
    ∙ tells_edge c.args.schema.now c.args.address c.args.met c.requires.met c.args.registers.now c.in-Fall.field-0 (c.requires.address ∙ ap address_in c.in-Fall.is) false
    (ap (λ kept. goes_quietly kept false c.args.met.class) (sym c.is_kept.ensures) ∙ sym c.goes_quietly.ensures ∙ c.if-goes_quietly.true))

pub returns-else-goes_quietly : goal.returns-else-goes_quietly
returns-else-goes_quietly c =
    c.if-goes_quietly.false
    ∙ sym (ap (may_tell c.args.schema.now c.args.address c.args.registers.now) c.in-Fall.is
    ∙ tells_no_edge c.args.schema.now c.args.address c.args.met c.requires.met c.args.registers.now c.in-Fall.field-0 false
    (ap (λ kept. goes_quietly kept false c.args.met.class) (sym c.is_kept.ensures) ∙ sym c.goes_quietly.ensures ∙ c.if-goes_quietly.false))

pub returns-then-goes_quietly-2 : goal.returns-then-goes_quietly-2
returns-then-goes_quietly-2 c =
    c.is_marked-then-goes_quietly-2.ensures
    ∙ sym (ap (may_tell c.args.schema.now c.args.address c.args.registers.now) c.in-Taken.is
    ∙ tells_edge c.args.schema.now c.args.address c.args.met c.requires.met c.args.registers.now c.in-Taken.field-0 (c.requires.address ∙ ap address_in c.in-Taken.is) true
    (ap (λ kept. goes_quietly kept true c.args.met.class) (sym c.is_kept-in-Taken.ensures) ∙ sym c.goes_quietly-in-Taken.ensures ∙ c.if-goes_quietly-2.true))

pub returns-else-goes_quietly-2 : goal.returns-else-goes_quietly-2
returns-else-goes_quietly-2 c =
    c.if-goes_quietly-2.false
    ∙ sym (ap (may_tell c.args.schema.now c.args.address c.args.registers.now) c.in-Taken.is
    ∙ tells_no_edge c.args.schema.now c.args.address c.args.met c.requires.met c.args.registers.now c.in-Taken.field-0 true
    (ap (λ kept. goes_quietly kept true c.args.met.class) (sym c.is_kept-in-Taken.ensures) ∙ sym c.goes_quietly-in-Taken.ensures ∙ c.if-goes_quietly-2.false))

pub returns-in-Value : goal.returns-in-Value
returns-in-Value c =
    c.gives_value.ensures
    ∙ ap (λ kept. gives_value kept c.args.met.class) c.is_kept-in-Value.ensures
    ∙ sym (ap (may_tell c.args.schema.now c.args.address c.args.registers.now) c.in-Value.is
    ∙ tells_value c.args.schema.now c.args.address c.args.met c.requires.met c.args.registers.now c.in-Value.at c.in-Value.value (c.requires.address ∙ ap address_in c.in-Value.is))

pub returns-then-is_indirect : goal.returns-then-is_indirect
returns-then-is_indirect c =
    c.may_land.ensures
    ∙ sym (ap (may_tell c.args.schema.now c.args.address c.args.registers.now) c.in-Landing.is
    ∙ tells_landing c.args.schema.now c.args.address c.args.met c.requires.met c.args.registers.now c.in-Landing.at c.in-Landing.target c.in-Landing.values (c.requires.address ∙ ap address_in c.in-Landing.is)
    ∙ ap (λ b. b && ((c.in-Landing.target % 2 == 0) && (length c.in-Landing.values == value_count (schema_shape c.args.schema.now) c.in-Landing.target))) (sym c.is_indirect.ensures ∙ c.if-is_indirect.true))

pub returns-else-is_indirect : goal.returns-else-is_indirect
returns-else-is_indirect c =
    c.if-is_indirect.false
    ∙ sym (ap (may_tell c.args.schema.now c.args.address c.args.registers.now) c.in-Landing.is
    ∙ tells_landing c.args.schema.now c.args.address c.args.met c.requires.met c.args.registers.now c.in-Landing.at c.in-Landing.target c.in-Landing.values (c.requires.address ∙ ap address_in c.in-Landing.is)
    ∙ ap (λ b. b && ((c.in-Landing.target % 2 == 0) && (length c.in-Landing.values == value_count (schema_shape c.args.schema.now) c.in-Landing.target))) (sym c.is_indirect.ensures ∙ c.if-is_indirect.false))

pub returns-then-may_stop : goal.returns-then-may_stop
returns-then-may_stop c =
    c.may_end.ensures
    ∙ ap (λ (instr : Instr). may_end instr c.args.registers.now c.in-End.kind c.in-End.detail) c.decode.ensures.meaning
    ∙ sym (ap (may_tell c.args.schema.now c.args.address c.args.registers.now) c.in-End.is
    ∙ tells_end c.args.schema.now c.args.address c.args.met c.requires.met c.args.registers.now c.in-End.at c.in-End.kind c.in-End.detail (c.requires.address ∙ ap address_in c.in-End.is)
    ∙ ap (λ b. b && may_end (meaning_of c.args.met.word.raw) c.args.registers.now c.in-End.kind c.in-End.detail) (sym c.may_stop.ensures ∙ c.if-may_stop.true))

pub returns-else-may_stop : goal.returns-else-may_stop
returns-else-may_stop c =
    c.if-may_stop.false
    ∙ sym (ap (may_tell c.args.schema.now c.args.address c.args.registers.now) c.in-End.is
    ∙ tells_end c.args.schema.now c.args.address c.args.met c.requires.met c.args.registers.now c.in-End.at c.in-End.kind c.in-End.detail (c.requires.address ∙ ap address_in c.in-End.is)
    ∙ ap (λ b. b && may_end (meaning_of c.args.met.word.raw) c.args.registers.now c.in-End.kind c.in-End.detail) (sym c.may_stop.ensures ∙ c.if-may_stop.false))

use Rattle.std.proofs.Common.{◌∙◌, ap, subst}
use Rattle.schema_form.specs.SchemaParts.{SchemaParts}
use Rattle.schema_form.specs.Valid.{IsSchema}
use Rattle.regen_walk.specs.Moves.{placed_at}
use Rattle.regen_walk.proofs.Entry.{entry_placed}
use Rattle.regen_walk.proofs.walk.Walk.start.Goals as goal

pub returns-clause-position : goal.returns-clause-position
returns-clause-position c =
    c.placed_at.ensures.position
    ∙ ap (λ (parts : SchemaParts). placed_at c.args.schema.now parts.entry) c.schema.view_is
    ∙ entry_placed c.args.schema.now (subst IsSchema c.schema.view_is c.schema.invariant.parts)

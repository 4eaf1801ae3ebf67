use Rattle.std.proofs.Common.{◌<◌, ℕ, length, subst, ap, sym, ◌∙◌}
use Rattle.graph_paths.specs.Forests.{IsAmong}
use Rattle.regen_path.specs.declared.arcs.Arc.{Arc}
use Rattle.schema_form.specs.SchemaParts.{SchemaParts}
use Rattle.schema_form.specs.Valid.{IsSchema}
use Rattle.regen_walk.proofs.ForestArcs.{forest_of}
use Rattle.regen_walk.proofs.arcs.quiet_paths.Goals as goal

pub build-requires-clause-ends : goal.build-requires-clause-ends
build-requires-clause-ends c =
    let are = forest_of c.args.schema.now (subst IsSchema c.schema.view_is c.schema.invariant.parts) c.deref.result.now (c.deref.ensures.value ∙ c.in_ok-arcs.ensures) in
    let count = ap length (c.as_slice.ensures ∙ ap (λ (parts : SchemaParts). parts.words) c.schema.view_is) in
    subst (λ (n : ℕ). (arc : Arc) → IsAmong c.deref.result.now arc → (arc.from < n) × (arc.to < n)) (sym count) are.ends

pub build-requires-clause-kinds : goal.build-requires-clause-kinds
build-requires-clause-kinds c = (forest_of c.args.schema.now (subst IsSchema c.schema.view_is c.schema.invariant.parts) c.deref.result.now (c.deref.ensures.value ∙ c.in_ok-arcs.ensures)).kinds

pub build-requires-clause-alone : goal.build-requires-clause-alone
build-requires-clause-alone c = (forest_of c.args.schema.now (subst IsSchema c.schema.view_is c.schema.invariant.parts) c.deref.result.now (c.deref.ensures.value ∙ c.in_ok-arcs.ensures)).alone

pub build-requires-clause-forest : goal.build-requires-clause-forest
build-requires-clause-forest c = (forest_of c.args.schema.now (subst IsSchema c.schema.view_is c.schema.invariant.parts) c.deref.result.now (c.deref.ensures.value ∙ c.in_ok-arcs.ensures)).forest

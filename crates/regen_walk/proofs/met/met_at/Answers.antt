use Rattle.std.proofs.Common.{refl, ◌∙◌, List, length, get_or, ap, sym, subst, arith}
use Rattle.std.specs.Prelude.{slice_get, IsSome}
use Rattle.std.proofs.lemmas.Option.{slice_get-get_or}
use Rattle.schema_form.specs.declared.word.SchemaWord.{SchemaWord}
use Rattle.schema_form.specs.SchemaParts.{SchemaParts}
use Rattle.schema_form.specs.Flags.{class_in}
use Rattle.schema_form.specs.Valid.{IsSchema}
use Rattle.regen_walk.proofs.WordsMet.{place_within, classed, is_met}
use Rattle.regen_walk.proofs.met.met_at.Goals as goal

abbrev no_word : SchemaWord
no_word = record { flags = 0; raw = 0; mask = 0 }

pub bounds-as_slice-spot : goal.bounds-as_slice-spot
bounds-as_slice-spot c =
    let valid = subst IsSchema c.schema.view_is c.schema.invariant.parts in
    let within = place_within c.args.schema.now valid c.args.spot c.requires in
    let same = ap length c.as_slice.ensures in
    let words = ap (λ (parts : SchemaParts). length parts.words) c.schema.view_is in
    omega (arith, within, same, words)

pub unwrap-requires : goal.unwrap-requires
unwrap-requires c =
    let valid = subst IsSchema c.schema.view_is c.schema.invariant.parts in
    let within = place_within c.args.schema.now valid c.args.spot c.requires in
    let list = c.as_slice.ensures ∙ ap (λ (parts : SchemaParts). parts.words) c.schema.view_is in
    let found = classed c.args.schema.now valid c.args.spot c.requires (get_or c.args.schema.now.words c.args.spot.place no_word) (slice_get-get_or c.args.schema.now.words c.args.spot.place no_word within) in
    subst IsSome (sym (c.class_in.ensures ∙ ap (λ (words : List SchemaWord). class_in (get_or words c.args.spot.place no_word).flags) list ∙ found.named)) refl

pub returns : goal.returns
returns c =
    let valid = subst IsSchema c.schema.view_is c.schema.invariant.parts in
    let within = place_within c.args.schema.now valid c.args.spot c.requires in
    let list = c.as_slice.ensures ∙ ap (λ (parts : SchemaParts). parts.words) c.schema.view_is in
    let at = ap (λ (words : List SchemaWord). slice_get words c.args.spot.place) (sym list) ∙ slice_get-get_or c.as_slice.result.now c.args.spot.place no_word (let same = ap length list in omega (arith, within, same)) in
    is_met c.args.schema.now valid c.args.spot c.requires _ _ at (sym c.class_in.ensures ∙ c.unwrap.ensures)

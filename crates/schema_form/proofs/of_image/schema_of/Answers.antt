use Rattle.std.proofs.Common.{◌≡◌, Bool, List, sym, ap, subst, ◌∙◌}
use Rattle.rv_code.specs.Code.{extents_of}
use Rattle.rv_code.specs.Image.{IsImage, word_count}
use Rattle.schema_form.specs.OfImage.{AreSchemaWordsOf}
use Rattle.schema_form.specs.SchemaParts.{SchemaParts}
use Rattle.schema_form.specs.Valid.{IsSchema}
use Rattle.schema_form.proofs.OwnSchema.{IsOwnCode, own_code, own_schema}
use Rattle.schema_form.proofs.of_image.schema_of.Goals as goal

pub with_parts-requires : goal.with_parts-requires
with_parts-requires c =
    let parts = c.args.graph.now in
    let image = c.args.image.now in
    let marks = c.args.forest.now.witness in
    let words = c.in_ok-words.words.items in
    let order = c.ranges-2.ensures.order in
    let ends = c.ranges-2.ensures.ends in
    let code : image.code ≡ parts.code = sym (λ i. (c.requires.graph i).code) in
    let own : IsOwnCode image.entry parts.code = subst (IsOwnCode image.entry) code (own_code image (subst IsImage c.image.view_is c.image.invariant) c.requires.note) in
    let made : IsSchema (record { entry = image.entry; stretches = extents_of parts.code; words = words }) =
    own_schema parts marks words order (c.blocks_are_runs_of_code_words.ensures.blocks parts order ends) (c.blocks_are_runs_of_code_words.ensures.words parts order ends)
    c.requires.cuts (subst (λ (m : List Bool). AreSchemaWordsOf parts m (word_count parts.code) words) c.as_slice.ensures c.in_ok-words.ensures.words) c.requires.marks c.in_ok-words.ensures.numbers image.entry own in
    let entry : c.image.inside.entry ≡ image.entry = λ i. (c.image.view_is i).entry in
    let stretches : c.in_ok-stretches.stretches.items ≡ extents_of parts.code = c.in_ok-stretches.ensures ∙ ap extents_of c.ranges-2.ensures.ranges in
    let same : ◌≡◌ {A = SchemaParts} (record { entry = c.image.inside.entry; stretches = c.in_ok-stretches.stretches.items; words = words }) (record { entry = image.entry; stretches = extents_of parts.code; words = words })
    = λ i. record { entry = entry i; stretches = stretches i; words = words } in
    subst IsSchema (sym same) made

use Rattle.std.proofs.Common.{◌++◌, refl, ap, ◌∙◌}
use Rattle.std.specs.List.{flat_map}
use Rattle.schema_form.specs.Spelling.{head_bytes, stretch_bytes, schema_word_bytes}
use Rattle.schema_form.specs.SchemaParts.{SchemaParts}
use Rattle.ae_nums.proofs.LawsOfWriters.{Puts-both, Puts-front, Puts-more}
use Rattle.schema_form.proofs.writing.write_schema.Goals as goal

pub returns-in_err-write : goal.returns-in_err-write
returns-in_err-write g c =
    let parts = c.args.schema.now in
    let broken = c.in_err-write.ensures.puts.broken in
    let front = Puts-front _ _ (head_bytes parts) (flat_map stretch_bytes parts.stretches) _ _ c.from_residual.result broken c.write.ensures.puts c.head_bytes.ensures in
    Puts-more _ _ _ (flat_map schema_word_bytes parts.words) _ broken front

pub returns-in_err-write_stretches : goal.returns-in_err-write_stretches
returns-in_err-write_stretches g c =
    let parts = c.args.schema.now in
    let both = Puts-both g.met.K.Sink.rest_joins _ _ _ (head_bytes parts) (flat_map stretch_bytes parts.stretches) _ _ _ _
    c.write.ensures.puts c.head_bytes.ensures c.write_stretches.ensures (ap (flat_map stretch_bytes) c.as_slice.ensures ∙ ap (λ (p : SchemaParts). flat_map stretch_bytes p.stretches) c.schema.view_is) in
    Puts-front _ _ (head_bytes parts ++ flat_map stretch_bytes parts.stretches) (flat_map schema_word_bytes parts.words) _ _ _ c.in_err-write_stretches.ensures.broken both refl

pub returns : goal.returns
returns g c =
    let parts = c.args.schema.now in
    let both = Puts-both g.met.K.Sink.rest_joins _ _ _ (head_bytes parts) (flat_map stretch_bytes parts.stretches) _ _ _ _
    c.write.ensures.puts c.head_bytes.ensures c.write_stretches.ensures (ap (flat_map stretch_bytes) c.as_slice.ensures ∙ ap (λ (p : SchemaParts). flat_map stretch_bytes p.stretches) c.schema.view_is) in
    Puts-both g.met.K.Sink.rest_joins _ _ _ (head_bytes parts ++ flat_map stretch_bytes parts.stretches) (flat_map schema_word_bytes parts.words) _ _ _ _
    both refl c.write_schema_words.ensures (ap (flat_map schema_word_bytes) c.as_slice-2.ensures ∙ ap (λ (p : SchemaParts). flat_map schema_word_bytes p.words) c.schema.view_is)

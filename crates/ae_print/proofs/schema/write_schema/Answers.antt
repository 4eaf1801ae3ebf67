use Rattle.std.proofs.Common.{◌≡◌, ℕ, length, refl, ap, ◌∙◌, rules}
use Rattle.ae_print.specs.SchemaText.{schema_front, schema_lines}
use Rattle.ae_nums.proofs.LawsOfWriters.{Puts-both, Puts-front}
use Rattle.ae_print.proofs.schema.write_schema.Goals as goal

pub returns-in_err-write_front : goal.returns-in_err-write_front
returns-in_err-write_front g c =
    let schema = c.args.schema.now in
    let entry : c.schema.inside.entry ≡ schema.entry = search rules in
    let ranges : length c.as_slice.result.now ≡ length schema.stretches = search rules in
    let words : length c.as_slice-words.result.now ≡ length schema.words = search rules in
    let is = ap (λ (known : ℕ). schema_front known (length c.as_slice.result.now) (length c.as_slice-words.result.now)) entry
    ∙ (ap (λ (known : ℕ). schema_front schema.entry known (length c.as_slice-words.result.now)) ranges ∙ ap (λ (known : ℕ). schema_front schema.entry (length schema.stretches) known) words) in
    Puts-front _ _ (schema_front schema.entry (length schema.stretches) (length schema.words)) (schema_lines schema) _ _ c.from_residual.result
    c.in_err-write_front.ensures.broken c.write_front.ensures is

pub returns : goal.returns
returns g c =
    let schema = c.args.schema.now in
    let entry : c.schema.inside.entry ≡ schema.entry = search rules in
    let ranges : length c.as_slice.result.now ≡ length schema.stretches = search rules in
    let words : length c.as_slice-words.result.now ≡ length schema.words = search rules in
    let is = ap (λ (known : ℕ). schema_front known (length c.as_slice.result.now) (length c.as_slice-words.result.now)) entry
    ∙ (ap (λ (known : ℕ). schema_front schema.entry known (length c.as_slice-words.result.now)) ranges ∙ ap (λ (known : ℕ). schema_front schema.entry (length schema.stretches) known) words) in
    Puts-both g.met.K.Sink.rest_joins _ _ _ (schema_front schema.entry (length schema.stretches) (length schema.words)) (schema_lines schema) _ _ _ _ c.write_front.ensures is
    c.write_words.ensures refl

use Rattle.std.proofs.Common.{sym, ap, ◌∙◌}
use Rattle.schema_form.specs.Layout.{stretches_from}
use Rattle.schema_form.specs.Refusal.{stretch_refusal}
use Rattle.schema_form.proofs.Heads.{are_whole}
use Rattle.schema_form.proofs.Says.{header_fits, are_head}
use Rattle.schema_form.proofs.reading.read_head.Goals as goal

pub stretches_from-requires : goal.stretches_from-requires
stretches_from-requires c =
    let bytes = c.args.bytes.now in
    let fits = header_fits bytes (sym c.front_refusal.ensures ∙ c.in_default.is) in
    are_whole bytes c.word_from-count.result fits.whole (sym c.stretch_refusal.ensures ∙ c.in_default-stretch_refusal.is)

pub returns-clause-read : goal.returns-clause-read
returns-clause-read c =
    let bytes = c.args.bytes.now in
    let count = c.word_from-count.ensures in
    are_head bytes c.in_ok-stretches.stretches.items (sym c.front_refusal.ensures ∙ c.in_default.is)
    (ap (stretch_refusal bytes) (sym count) ∙ sym c.stretch_refusal.ensures ∙ c.in_default-stretch_refusal.is)
    (c.in_ok-stretches.ensures ∙ ap (stretches_from bytes) count)

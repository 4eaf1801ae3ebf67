use Rattle.std.proofs.Common.{ℕ, ◌+◌, ◌*◌, ◌<◌, get_or, sym, ◌∙◌, arith}
use Rattle.schema_form.specs.Layout.{words_total}
use Rattle.schema_form.proofs.Says.{words_fit, words_whole}
use Rattle.schema_form.proofs.reading.read_body.Goals as goal

pub schema_words_from-requires : goal.schema_words_from-requires
schema_words_from-requires c =
    let bytes = c.args.bytes.now in
    let stretches = c.args.stretches.now in
    let first : ℕ = 12 + 8 * c.word_from.result in
    let small : (i : ℕ) → get_or bytes i 0 < 256 = λ i. omega (arith, c.type_inv.bytes i) in
    let fit = words_fit bytes stretches first (sym c.body_refusal.ensures ∙ c.in_default.is) in
    let whole = words_whole bytes small stretches first fit (omega (arith, c.requires.whole, c.word_from.ensures)) (words_total stretches) (omega arith) in
    omega (arith, whole, c.words_total.ensures)

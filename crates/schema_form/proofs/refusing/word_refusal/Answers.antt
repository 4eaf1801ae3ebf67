use Rattle.std.proofs.Common.{ℕ, ◌<◌, sym, ap, ◌∙◌, arith}
use Rattle.std.specs.Option.{option_map}
use Rattle.rv_code.proofs.LawsOfRows.{found_here, found_later}
use Rattle.schema_form.specs.declared.fault.SchemaFault.TheVariants.{BadEntry}
use Rattle.schema_form.specs.Layout.{words_total, word_offset}
use Rattle.schema_form.specs.Refusal.{word_offends}
use Rattle.schema_form.proofs.refusing.word_refusal.Goals as goal

pub returns-then-word_offends : goal.returns-then-word_offends
returns-then-word_offends c =
    let bytes = c.args.bytes.now in
    let stretches = c.args.stretches.now in
    let first : ℕ = c.args.first in
    let place : ℕ = c.loop-place.place in
    let within : place < words_total stretches = omega (arith, c.loop-place-test.true, c.words_total-place-end.ensures) in
    let found = c.loop-place.invariant ∙ found_here (word_offends bytes stretches first) place (words_total stretches) within (sym c.word_offends.ensures ∙ c.if-word_offends.true) in
    sym (ap (option_map (λ (at : ℕ). BadEntry (word_offset first at))) found)

pub loop-place-preserved : goal.loop-place-preserved
loop-place-preserved c =
    let bytes = c.args.bytes.now in
    let stretches = c.args.stretches.now in
    let first : ℕ = c.args.first in
    let place : ℕ = c.loop-place.place in
    let within : place < words_total stretches = omega (arith, c.loop-place-test.true, c.words_total-place-end.ensures) in
    c.loop-place.invariant ∙ found_later (word_offends bytes stretches first) place (words_total stretches) within (sym c.word_offends.ensures ∙ c.if-word_offends.false)

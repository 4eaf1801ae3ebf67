use Rattle.std.proofs.Common.{◌≡◌, ℕ, ◌+◌, true, false, Some, sym, ap, ◌∙◌, arith}
use Rattle.std.specs.Option.{option_map}
use Rattle.std.proofs.lemmas.Bool.{or_left, or_right, or_from, cond-true, cond-false, lt-ltb, le-ltb}
use Rattle.rv_code.specs.declared.extent.Extent.{Extent}
use Rattle.rv_code.specs.declared.limits.TheConstants.{WORDS_LIMIT}
use Rattle.rv_code.proofs.LawsOfRows.{found_here, found_later}
use Rattle.schema_form.specs.Layout.{stretches_from, words_total}
use Rattle.schema_form.specs.Refusal.{stretch_misfits, is_too_many, stretch_offends, stretch_fault}
use Rattle.schema_form.proofs.Rows.{words_more}
use Rattle.schema_form.proofs.front.stretch_refusal.Goals as goal

pub returns-then-stretch_misfits : goal.returns-then-stretch_misfits
returns-then-stretch_misfits c =
    let bytes = c.args.bytes.now in
    let number : ℕ = c.loop-number.number in
    let misfits = sym c.stretch_misfits.ensures ∙ c.if-stretch_misfits.true in
    let found = c.loop-number.invariant.none_yet
    ∙ found_here (stretch_offends bytes) number c.args.count c.loop-number-test.true (or_left (stretch_misfits bytes number) (is_too_many bytes number) misfits) in
    sym (ap (option_map (stretch_fault bytes)) found ∙ ap Some (cond-true (stretch_misfits bytes number) _ _ misfits))

pub returns-then-total-gt-WORDS_LIMIT : goal.returns-then-total-gt-WORDS_LIMIT
returns-then-total-gt-WORDS_LIMIT c =
    let bytes = c.args.bytes.now in
    let number : ℕ = c.loop-number.number in
    let fits = sym c.stretch_misfits.ensures ∙ c.if-stretch_misfits.false in
    let read = ap (λ (stretch : Extent). stretch.count) c.stretch_from-total.ensures in
    let many : is_too_many bytes number ≡ true =
    lt-ltb WORDS_LIMIT (words_total (stretches_from bytes (number + 1))) (omega (arith, words_more bytes number, c.loop-number.invariant.total, read)) in
    let found = c.loop-number.invariant.none_yet
    ∙ found_here (stretch_offends bytes) number c.args.count c.loop-number-test.true (or_right (stretch_misfits bytes number) (is_too_many bytes number) many) in
    sym (ap (option_map (stretch_fault bytes)) found ∙ ap Some (cond-false (stretch_misfits bytes number) _ _ fits))

pub loop-number-preserved : goal.loop-number-preserved
loop-number-preserved c =
    let bytes = c.args.bytes.now in
    let number : ℕ = c.loop-number.number in
    let fits = sym c.stretch_misfits.ensures ∙ c.if-stretch_misfits.false in
    let read = ap (λ (stretch : Extent). stretch.count) c.stretch_from-total.ensures in
    let more = words_more bytes number in
    let few : is_too_many bytes number ≡ false =
    le-ltb WORDS_LIMIT (words_total (stretches_from bytes (number + 1))) (omega (arith, more, c.loop-number.invariant.total, read)) in
    record {
      none_yet =
          c.loop-number.invariant.none_yet
          ∙ found_later (stretch_offends bytes) number c.args.count c.loop-number-test.true (or_from (stretch_misfits bytes number) (is_too_many bytes number) fits few);
      total = omega (arith, more, c.loop-number.invariant.total, read);
      few = omega arith;
    }

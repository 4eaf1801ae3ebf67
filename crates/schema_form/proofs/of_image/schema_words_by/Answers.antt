use Rattle.std.proofs.Common.{◌≡◌, ℕ, ◌+◌, List, Some, sym, ap, subst, ◌∙◌, arith}
use Rattle.std.specs.List.{AllByRecursion}
use Rattle.rv_code.specs.declared.image.Range.{Range}
use Rattle.rv_code.specs.Code.{extents_of}
use Rattle.rv_code.specs.Image.{word_count}
use Rattle.rv_code.specs.Places.{address_of}
use Rattle.schema_form.specs.OfImage.{AreSchemaWordsOf}
use Rattle.schema_form.specs.Valid.{AreNumbersOfWord}
use Rattle.schema_form.proofs.MadeWords.{one_word_more, code_at_place}
use Rattle.schema_form.proofs.Rows.{all_append}
use Rattle.schema_form.proofs.of_image.schema_words_by.Goals as goal

at_known : (ranges code : List Range) (place address : ℕ) → ranges ≡ code → address_of (extents_of ranges) place ≡ Some address → address_of (extents_of code) place ≡ Some address
at_known ranges code place address same at = ap (λ (known : List Range). address_of (extents_of known) place) (sym same) ∙ at

pub schema_word_of-requires-clause-code : goal.schema_word_of-requires-clause-code
schema_word_of-requires-clause-code c =
    let code = c.args.graph.now.code in
    code_at_place code c.loop-place.place c.address_at.result c.ranges-ranges.ensures.order (at_known c.ranges-ranges.result.now code c.loop-place.place c.address_at.result c.ranges-ranges.ensures.ranges c.address_at.ensures)

pub loop-place-preserved : goal.loop-place-preserved
loop-place-preserved c =
    let parts = c.args.graph.now in
    let place = c.loop-place.place in
    let address = c.address_at.result in
    let words = c.loop-place.words.items in
    let word = c.schema_word_of.result in
    let at = at_known c.ranges-ranges.result.now parts.code place address c.ranges-ranges.ensures.ranges c.address_at.ensures in (
      λ marks falls takes.
          subst (AreSchemaWordsOf parts marks (place + 1)) (sym c.in_ok-push.ensures.items)
          (one_word_more parts marks place address words word at (c.schema_word_of.ensures.word marks (falls.each place address at) (takes.each place address at))
          (c.loop-place.invariant.0 marks falls takes)),
      subst (AllByRecursion AreNumbersOfWord) (sym c.in_ok-push.ensures.items) (all_append AreNumbersOfWord words _ c.loop-place.invariant.1 (c.schema_word_of.ensures.numbers, tt)),
    )

pub returns-clause-words : goal.returns-clause-words
returns-clause-words c = λ marks falls takes.
    let parts = c.args.graph.now in
    let past = c.loop-place-test.false in
    let within = c.loop-place.auto.place-end in
    let all : c.loop-place.place ≡ word_count parts.code =
    omega (arith, past, within, c.count_in-place-end.ensures, ap word_count c.ranges-ranges.ensures.ranges) in
    subst (λ n. AreSchemaWordsOf parts marks n c.loop-place.words.items) all (c.loop-place.invariant.0 marks falls takes)

use Rattle.std.proofs.Common.{ℕ, ◌+◌, get_or, Ok, refl, ap, ◌∙◌, arith}
use Rattle.schema_form.specs.declared.word.SchemaWord.{SchemaWord}
use Rattle.ae_print.specs.Numbered.{numbered_lines}
use Rattle.ae_print.specs.SchemaText.{schema_line, schema_line_at}
use Rattle.ae_nums.proofs.LawsOfWriters.{Puts-none, Puts-both, Puts-front, Puts-same}
use Rattle.ae_print.proofs.Rows.{lines_before, lines_behind, one_more, all_before, before_behind}
use Rattle.ae_print.proofs.schema.write_words.Goals as goal

pub loop-place-init : goal.loop-place-init
loop-place-init g c = Puts-none _ (g.met.K.Sink.rest_stays _)

pub returns-in_err-write_word : goal.returns-in_err-write_word
returns-in_err-write_word g c =
    let line_of = schema_line_at c.args.schema.now in
    let items = c.args.words.now in
    let place = c.loop-place.place in
    let none : SchemaWord = record { flags = 0; raw = 0; mask = 0 } in
    let word : SchemaWord = get_or items place none in
    let here = ap (λ (address : ℕ). schema_line address word) c.address_at.ensures in
    let both = Puts-both g.met.K.Sink.rest_joins _ _ _ (lines_before line_of items place) (line_of place word) _ _ (Ok tt) _ c.loop-place.invariant refl c.write_word.ensures here in
    let front = Puts-front _ _ (lines_before line_of items (place + 1)) (lines_behind line_of items (place + 1)) _ _ c.from_residual.result
    c.in_err-write_word.ensures.broken both (one_more line_of items place none c.loop-place-test.true) in
    Puts-same _ _ _ _ _ front (before_behind line_of items (place + 1) ∙ ap (numbered_lines line_of) c.requires.same)

pub loop-place-preserved : goal.loop-place-preserved
loop-place-preserved g c =
    let line_of = schema_line_at c.args.schema.now in
    let items = c.args.words.now in
    let place = c.loop-place.place in
    let none : SchemaWord = record { flags = 0; raw = 0; mask = 0 } in
    let word : SchemaWord = get_or items place none in
    let here = ap (λ (address : ℕ). schema_line address word) c.address_at.ensures in
    let both = Puts-both g.met.K.Sink.rest_joins _ _ _ (lines_before line_of items place) (line_of place word) _ _ (Ok tt) (Ok tt) c.loop-place.invariant refl c.in_ok-write_word.ensures here in
    Puts-same _ _ _ _ (Ok tt) both (one_more line_of items place none c.loop-place-test.true)

pub returns : goal.returns
returns g c =
    let line_of = schema_line_at c.args.schema.now in
    Puts-same _ _ _ _ _ c.loop-place.invariant (all_before line_of c.args.words.now c.loop-place.place (omega arith) ∙ ap (numbered_lines line_of) c.requires.same)

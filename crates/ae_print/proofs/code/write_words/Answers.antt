use Rattle.std.proofs.Common.{◌≡◌, ◌+◌, ◌*◌, get_or, Ok, refl, ap, ◌∙◌, arith}
use Rattle.rv_text.specs.Listing.{listing_line}
use Rattle.ae_print.specs.CodeText.{word_line}
use Rattle.ae_nums.proofs.LawsOfWriters.{Puts-none, Puts-both, Puts-front, Puts-same}
use Rattle.ae_print.proofs.Rows.{lines_before, lines_behind, one_more, all_before, before_behind}
use Rattle.ae_print.proofs.Wrapped.{line_wrap}
use Rattle.ae_print.proofs.code.write_words.Goals as goal

pub returns-in_err-write : goal.returns-in_err-write
returns-in_err-write g c =
    let line_of = word_line c.args.start in
    let items = c.args.words.now in
    let index = c.loop-word.word-index in
    let word = get_or items index 0 in
    let here : c.bytes.result.now ≡ line_of index word =
    c.bytes.ensures.same ∙ c.listing.ensures ∙ ap (λ address. listing_line address word) c.loop-word.invariant.0 ∙ line_wrap (c.args.start + 4 * index) word in
    let both = Puts-both g.met.K.Sink.rest_joins _ _ _ (lines_before line_of items index) (line_of index word) _ _ (Ok tt) _ c.loop-word.invariant.1 refl c.write.ensures.puts here in
    let front = Puts-front _ _ (lines_before line_of items (index + 1)) (lines_behind line_of items (index + 1)) _ _ c.from_residual.result
    c.in_err-write.ensures.puts.broken both (one_more line_of items index 0 c.loop-word-test.true) in
    Puts-same _ _ _ _ _ front (before_behind line_of items (index + 1))

pub loop-word-preserved : goal.loop-word-preserved
loop-word-preserved g c =
    let line_of = word_line c.args.start in
    let items = c.args.words.now in
    let index = c.loop-word.word-index in
    let word = get_or items index 0 in
    let here : c.bytes.result.now ≡ line_of index word =
    c.bytes.ensures.same ∙ c.listing.ensures ∙ ap (λ address. listing_line address word) c.loop-word.invariant.0 ∙ line_wrap (c.args.start + 4 * index) word in
    let both = Puts-both g.met.K.Sink.rest_joins _ _ _ (lines_before line_of items index) (line_of index word) _ _ (Ok tt) (Ok tt) c.loop-word.invariant.1 refl c.in_ok-write.ensures.puts here in
    (omega (arith, c.loop-word.invariant.0), Puts-same _ _ _ _ (Ok tt) both (one_more line_of items index 0 c.loop-word-test.true))

pub returns : goal.returns
returns g c = Puts-same _ _ _ _ _ c.loop-word.invariant.1 (all_before (word_line c.args.start) c.args.words.now c.loop-word.word-index c.loop-word-test.false)

pub loop-word-init : goal.loop-word-init
loop-word-init g c = (omega arith, Puts-none _ (g.met.K.Sink.rest_stays _))

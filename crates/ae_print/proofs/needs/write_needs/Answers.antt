use Rattle.std.proofs.Common.{◌≡◌, ℕ, ◌+◌, ◌≤◌, List, [], ◌∷◌, ◌++◌, true, length, take, drop, Some, refl, sym, ap, ◌∙◌, subst, arith, take-append-drop}
use Rattle.std.proofs.lemmas.List.{take_all}
use Rattle.std.proofs.lemmas.Option.{slice_get_within, get_or_from_slice_get}
use Rattle.rv_code.specs.declared.image.Range.{Range}
use Rattle.rv_code.specs.Code.{extents_of, is_code}
use Rattle.rv_code.specs.Places.{address_of, code_addresses, AreCodeExtents}
use Rattle.rv_code.proofs.LawsOfPlaces.{Contains-is_code, length-code_addresses_of_ranges}
use Rattle.ae_nums.proofs.LawsOfWriters.{Puts-none}
use Rattle.ae_print.specs.Lines.{AreLines, AreFirstLines}
use Rattle.ae_print.specs.NeedsText.{IsNeedsLine}
use Rattle.ae_print.proofs.Lines.{lines_both, line_alone, first_of_more, first_all, one_more_item, some_both, some_as}
use Rattle.ae_print.proofs.SomeFinished.{in_error}
use Rattle.ae_print.proofs.needs.write_needs.Goals as goal

-- a code word at a place
is_code_at : (ranges code needs : List Range) (place address : ℕ) → ranges ≡ code → needs ≡ code → AreCodeExtents (extents_of code) → address_of (extents_of ranges) place ≡ Some address → is_code (extents_of needs) address ≡ true
is_code_at ranges code needs place address same is order at =
    let words : List ℕ = code_addresses (extents_of code) in
    let here : address_of (extents_of code) place ≡ Some address = ap (λ (known : List Range). address_of (extents_of known) place) (sym same) ∙ at in
    ap (λ (known : List Range). is_code (extents_of known) address) is
    ∙ Contains-is_code (extents_of code) address order (place, slice_get_within words place address here, get_or_from_slice_get words place address address here)

-- one line more
more_lines : (ranges code needs : List Range) (place address : ℕ) (text line : List ℕ) → ranges ≡ code → needs ≡ code → address_of (extents_of ranges) place ≡ Some address
    → AreLines (IsNeedsLine code) (take place (code_addresses (extents_of code))) text → IsNeedsLine needs address line → AreLines (IsNeedsLine code) (take (place + 1) (code_addresses (extents_of code))) (text ++ line)
more_lines ranges code needs place address text line same is at are this =
    let words : List ℕ = code_addresses (extents_of code) in
    let here : address_of (extents_of code) place ≡ Some address = ap (λ (known : List Range). address_of (extents_of known) place) (sym same) ∙ at in
    subst (λ (items : List ℕ). AreLines (IsNeedsLine code) items (text ++ line)) (sym (one_more_item words place address here))
    (lines_both (IsNeedsLine code) (take place words) (address ∷ []) text line are
    (line_alone (IsNeedsLine code) address line (subst (λ (known : List Range). IsNeedsLine known address line) is this)))

first_lines : (code : List Range) (count : ℕ) (text : List ℕ) → AreLines (IsNeedsLine code) (take count (code_addresses (extents_of code))) text → AreFirstLines (IsNeedsLine code) (code_addresses (extents_of code)) text
first_lines code count text are =
    let words : List ℕ = code_addresses (extents_of code) in
    subst (λ (items : List ℕ). AreFirstLines (IsNeedsLine code) items text) (take-append-drop count words)
    (first_of_more (IsNeedsLine code) (take count words) (drop count words) text (first_all (IsNeedsLine code) (take count words) text are))

pub loop-place-init : goal.loop-place-init
loop-place-init g c = record { text = []; is = refl; puts = Puts-none _ (g.met.K.Sink.rest_stays _) }

pub write_word-requires : goal.write_word-requires
write_word-requires g c =
    is_code_at c.ranges-ranges.result.now c.args.graph.now.code c.args.needs.now c.loop-place.place c.address_at.result c.ranges-ranges.ensures.ranges c.requires c.ranges-ranges.ensures.order c.address_at.ensures

pub loop-place-preserved : goal.loop-place-preserved
loop-place-preserved g c =
    some_both g.met.K.Sink.rest_joins _ _ _ _ _ _
    (λ text line are this. more_lines c.ranges-ranges.result.now c.args.graph.now.code c.args.needs.now c.loop-place.place c.address_at.result text line c.ranges-ranges.ensures.ranges c.requires c.address_at.ensures are this)
    c.loop-place.invariant c.write_word.ensures.line

pub returns-in_err-write_word-clause-front : goal.returns-in_err-write_word-clause-front
returns-in_err-write_word-clause-front g c =
    let code : List Range = c.args.graph.now.code in
    in_error _ c.from_residual.result
    (some_both g.met.K.Sink.rest_joins _ _ _ _ _ (AreFirstLines (IsNeedsLine code) (code_addresses (extents_of code)))
    (λ text line are this. first_lines code (c.loop-place.place + 1) (text ++ line)
    (more_lines c.ranges-ranges.result.now code c.args.needs.now c.loop-place.place c.address_at.result text line c.ranges-ranges.ensures.ranges c.requires c.address_at.ensures are this))
    c.loop-place.invariant c.write_word.ensures.line)

pub returns-clause-all : goal.returns-clause-all
returns-clause-all g c =
    let code : List Range = c.args.graph.now.code in
    let words : List ℕ = code_addresses (extents_of code) in
    let count : length words ≤ c.loop-place.place =
    omega (arith, c.loop-place-test.false, c.count_in-place-end.ensures, length-code_addresses_of_ranges c.ranges-ranges.result.now, ap (λ (known : List Range). length (code_addresses (extents_of known))) c.ranges-ranges.ensures.ranges) in
    some_as _ _ _ _ (λ text are. subst (λ (items : List ℕ). AreLines (IsNeedsLine code) items text) (take_all c.loop-place.place words count) are) c.loop-place.invariant

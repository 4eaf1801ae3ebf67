use Rattle.std.proofs.Common.{◌≡◌, ℕ, ◌+◌, ◌≤◌, List, [], ◌∷◌, ◌++◌, length, take, drop, Some, refl, sym, ap, ◌∙◌, subst, arith}
use Rattle.std.specs.Prelude.{filter}
use Rattle.std.proofs.lemmas.List.{take_all}
use Rattle.rv_code.specs.declared.image.Range.{Range}
use Rattle.rv_code.specs.Code.{extents_of}
use Rattle.rv_code.specs.Places.{address_of, code_addresses}
use Rattle.rv_code.proofs.LawsOfPlaces.{length-code_addresses_of_ranges}
use Rattle.reach_slice.specs.Slices.{is_access}
use Rattle.ae_nums.proofs.LawsOfWriters.{Puts-none}
use Rattle.ae_print.specs.Lines.{AreLines, AreFirstLines}
use Rattle.ae_print.specs.SliceText.{IsSliceLine, accesses_of}
use Rattle.ae_print.proofs.Lines.{lines_both, first_behind, first_of_more, one_more_kept, all_kept, some_both, some_as}
use Rattle.ae_print.proofs.SomeFinished.{in_error}
use Rattle.ae_print.proofs.slices.write_slices.Goals as goal

-- the accesses up to a place and at it
more_accesses : (ranges code reaching : List Range) (place address : ℕ) → ranges ≡ code → reaching ≡ code → address_of (extents_of ranges) place ≡ Some address
    → filter (is_access code) (take place (code_addresses (extents_of code))) ++ filter (is_access reaching) (address ∷ []) ≡ filter (is_access code) (take (place + 1) (code_addresses (extents_of code)))
more_accesses ranges code reaching place address same is at =
    let words : List ℕ = code_addresses (extents_of code) in
    let here : address_of (extents_of code) place ≡ Some address = ap (λ (known : List Range). address_of (extents_of known) place) (sym same) ∙ at in
    ap (λ (known : List Range). filter (is_access code) (take place words) ++ filter (is_access known) (address ∷ [])) is
    ∙ sym (one_more_kept (is_access code) words place address here)

-- one line more, if there is one
more_lines : (ranges code reaching : List Range) (place address : ℕ) (text line : List ℕ) → ranges ≡ code → reaching ≡ code → address_of (extents_of ranges) place ≡ Some address
    → AreLines (IsSliceLine code) (filter (is_access code) (take place (code_addresses (extents_of code)))) text → AreLines (IsSliceLine reaching) (filter (is_access reaching) (address ∷ [])) line
    → AreLines (IsSliceLine code) (filter (is_access code) (take (place + 1) (code_addresses (extents_of code)))) (text ++ line)
more_lines ranges code reaching place address text line same is at are this =
    let before : List ℕ = filter (is_access code) (take place (code_addresses (extents_of code))) in
    let others : List ℕ = filter (is_access reaching) (address ∷ []) in
    subst (λ (items : List ℕ). AreLines (IsSliceLine code) items (text ++ line)) (more_accesses ranges code reaching place address same is at)
    (lines_both (IsSliceLine code) before others text line are (subst (λ (known : List Range). AreLines (IsSliceLine known) others line) is this))

-- the first lines, where the last one may be wanting
first_lines : (ranges code reaching : List Range) (place address : ℕ) (text line : List ℕ) → ranges ≡ code → reaching ≡ code → address_of (extents_of ranges) place ≡ Some address
    → AreLines (IsSliceLine code) (filter (is_access code) (take place (code_addresses (extents_of code)))) text → AreFirstLines (IsSliceLine reaching) (filter (is_access reaching) (address ∷ [])) line
    → AreFirstLines (IsSliceLine code) (filter (is_access code) (code_addresses (extents_of code))) (text ++ line)
first_lines ranges code reaching place address text line same is at are this =
    let words : List ℕ = code_addresses (extents_of code) in
    let before : List ℕ = filter (is_access code) (take place words) in
    let others : List ℕ = filter (is_access reaching) (address ∷ []) in
    let behind : List ℕ = filter (is_access code) (drop (place + 1) words) in
    subst (λ (items : List ℕ). AreFirstLines (IsSliceLine code) items (text ++ line))
    (ap (λ (front : List ℕ). front ++ behind) (more_accesses ranges code reaching place address same is at) ∙ all_kept (is_access code) words (place + 1))
    (first_of_more (IsSliceLine code) (before ++ others) behind (text ++ line)
    (first_behind (IsSliceLine code) before others text line are (subst (λ (known : List Range). AreFirstLines (IsSliceLine known) others line) is this)))

pub loop-place-init : goal.loop-place-init
loop-place-init g c = record { text = []; is = refl; puts = Puts-none _ (g.met.K.Sink.rest_stays _) }

pub loop-place-preserved : goal.loop-place-preserved
loop-place-preserved g c =
    some_both g.met.K.Sink.rest_joins _ _ _ _ _ _
    (λ text line are this. more_lines c.ranges-ranges.result.now c.args.graph.now.code c.args.reaching.now c.loop-place.place c.address_at.result text line c.ranges-ranges.ensures.ranges c.requires c.address_at.ensures are this)
    c.loop-place.invariant c.in_ok-write_slice_at.ensures.all

pub returns-in_err-write_slice_at-clause-front : goal.returns-in_err-write_slice_at-clause-front
returns-in_err-write_slice_at-clause-front g c =
    in_error _ c.from_residual.result
    (some_both g.met.K.Sink.rest_joins _ _ _ _ _ (AreFirstLines (IsSliceLine c.args.graph.now.code) (accesses_of c.args.graph.now.code))
    (λ text line are this. first_lines c.ranges-ranges.result.now c.args.graph.now.code c.args.reaching.now c.loop-place.place c.address_at.result text line c.ranges-ranges.ensures.ranges c.requires c.address_at.ensures are this)
    c.loop-place.invariant c.in_err-write_slice_at.ensures.front)

pub returns-clause-all : goal.returns-clause-all
returns-clause-all g c =
    let code : List Range = c.args.graph.now.code in
    let words : List ℕ = code_addresses (extents_of code) in
    let count : length words ≤ c.loop-place.place =
    omega (arith, c.loop-place-test.false, c.count_in-place-end.ensures, length-code_addresses_of_ranges c.ranges-ranges.result.now, ap (λ (known : List Range). length (code_addresses (extents_of known))) c.ranges-ranges.ensures.ranges) in
    some_as _ _ _ _ (λ text are. subst (λ (items : List ℕ). AreLines (IsSliceLine code) (filter (is_access code) items) text) (take_all c.loop-place.place words count) are) c.loop-place.invariant

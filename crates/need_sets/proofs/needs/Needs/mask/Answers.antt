-- The mask of the place says so.
use Rattle.std.proofs.Common.{◌≡◌, ℕ, List, Some, get_or, sym, ap, subst, ◌∙◌}
use Rattle.std.specs.Prelude.{◌↔◌, is_some}
use Rattle.std.specs.Int.{bit_at}
use Rattle.rv_code.specs.declared.image.Range.{Range}
use Rattle.rv_code.specs.Code.{extents_of, is_code}
use Rattle.rv_code.specs.Places.{place_of}
use Rattle.rv_code.proofs.LawsOfLookUps.{is_some-place_of}
use Rattle.need_sets.specs.Needed.{IsNeeded}
use Rattle.need_sets.specs.Words.{base_at}
use Rattle.need_sets.proofs.Complete.{needed_at}
use Rattle.need_sets.proofs.needs.Needs.mask.Goals as goal

pub returns-in_err-place-clause-code : goal.returns-in_err-place-clause-code
returns-in_err-place-clause-code c =
    ap is_some (c.from_residual.ensures ∙ (sym c.in_err-place.was ∙ (c.place_in.ensures.place ∙ ap (λ (ranges : List Range). place_of (extents_of ranges) c.args.address) c.as_slice.ensures)))
    ∙ (is_some-place_of (extents_of c.self.inside.code) c.args.address c.self.invariant.order.each
    ∙ ap (λ (ranges : List Range). is_code (extents_of ranges) c.args.address) c.self.view_is)

pub returns-clause-code : goal.returns-clause-code
returns-clause-code c =
    ap is_some (c.in_ok-place.ensures.place ∙ ap (λ (ranges : List Range). place_of (extents_of ranges) c.args.address) c.as_slice.ensures)
    ∙ (is_some-place_of (extents_of c.self.inside.code) c.args.address c.self.invariant.order.each
    ∙ ap (λ (ranges : List Range). is_code (extents_of ranges) c.args.address) c.self.view_is)

pub returns-clause-mask : goal.returns-clause-mask
returns-clause-mask c = λ register.
    let code : List Range = c.self.inside.code in
    let is : place_of (extents_of code) c.args.address ≡ Some c.in_ok-place.place =
    ap (λ (ranges : List Range). place_of (extents_of ranges) c.args.address) (sym c.as_slice.ensures) ∙ sym c.in_ok-place.ensures.place
    in
    subst (λ (ranges : List Range). (bit_at (get_or c.as_slice-2.result.now c.in_ok-place.place 0) register ≡ 1) ↔ IsNeeded ranges c.args.address register) c.self.view_is
    (subst (λ (masks : List ℕ). (bit_at (get_or masks c.in_ok-place.place 0) register ≡ 1) ↔ IsNeeded code c.args.address register) (sym c.as_slice-2.ensures)
    (needed_at code (base_at code) c.self.inside.masks c.self.inside.used c.in_ok-place.place c.args.address is c.self.invariant.needed register))

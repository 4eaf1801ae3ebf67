-- The mark of the place says so; where no code word stands nothing is used.
use Rattle.std.proofs.Common.{◌≡◌, List, Bool, true, false, Some, None, get_or, sym, ap, subst, ◌∙◌}
use Rattle.std.specs.Prelude.{◌↔◌}
use Rattle.rv_code.specs.declared.image.Range.{Range}
use Rattle.rv_code.specs.Code.{extents_of}
use Rattle.rv_code.specs.Places.{place_of}
use Rattle.need_sets.specs.Needed.{IsUsed}
use Rattle.need_sets.specs.Words.{base_at}
use Rattle.need_sets.proofs.Complete.{used_at, used_nowhere}
use Rattle.need_sets.proofs.needs.Needs.is_used.Goals as goal

pub returns-in-Some : goal.returns-in-Some
returns-in-Some c =
    let code : List Range = c.self.inside.code in
    let is : place_of (extents_of code) c.args.address ≡ Some c.in-Some.place =
    ap (λ (ranges : List Range). place_of (extents_of ranges) c.args.address) (sym c.as_slice.ensures) ∙ sym c.in-Some.ensures.place
    in
    subst (λ (ranges : List Range). (get_or c.as_slice-in-Some.result.now c.in-Some.place false ≡ true) ↔ IsUsed ranges c.args.address) c.self.view_is
    (subst (λ (marks : List Bool). (get_or marks c.in-Some.place false ≡ true) ↔ IsUsed code c.args.address) (sym c.as_slice-in-Some.ensures)
    (used_at code (base_at code) c.self.inside.masks c.self.inside.used c.in-Some.place c.args.address is c.self.invariant.needed))

pub returns-in-None : goal.returns-in-None
returns-in-None c =
    let code : List Range = c.self.inside.code in
    let is : place_of (extents_of code) c.args.address ≡ None =
    ap (λ (ranges : List Range). place_of (extents_of ranges) c.args.address) (sym c.as_slice.ensures) ∙ sym c.in-None.ensures.place
    in (
      (λ never. absurd (cc never)),
      (λ used.
          absurd (used_nowhere code (base_at code) c.args.address c.self.invariant.order is (subst (λ (ranges : List Range). IsUsed ranges c.args.address) (sym c.self.view_is) used))),
    )

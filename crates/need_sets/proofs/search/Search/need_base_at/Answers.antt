-- The place of the access is the one with its address.
use Rattle.std.proofs.Common.{ℕ, sym, subst}
use Rattle.std.proofs.lemmas.Result.{on_ok_weaker}
use Rattle.rv_code.proofs.LawsOfLookUps.{address_of-place_of}
use Rattle.rv_code.specs.Code.{extents_of}
use Rattle.need_sets.specs.Inner.Search.{HasBase}
use Rattle.need_sets.proofs.Based.{one_place, no_place}
use Rattle.need_sets.proofs.search.Search.need_base_at.Goals as goal

pub returns-in-Some-clause-needed : goal.returns-in-Some-clause-needed
returns-in-Some-clause-needed c =
    on_ok_weaker c.need_base.result
    (λ has place at.
    subst (λ (n : ℕ). HasBase c.args.ranges.now c.need_base.new.self n)
    (sym (one_place c.args.ranges.now c.args.access c.in-Some.place place c.requires.order.rise (sym c.in-Some.ensures.place) at)) has)
    c.need_base.ensures.needed

pub returns-in-Some-clause-sound : goal.returns-in-Some-clause-sound
returns-in-Some-clause-sound c = λ bases asks was.
    c.need_base.ensures.sound bases (asks c.in-Some.place (address_of-place_of (extents_of c.args.ranges.now) c.in-Some.place c.args.access (sym c.in-Some.ensures.place))) was

pub returns-in-None-clause-needed : goal.returns-in-None-clause-needed
returns-in-None-clause-needed c = λ place at.
    absurd (no_place c.args.ranges.now c.args.access place c.requires.order.rise (sym c.in-None.ensures.place) at)

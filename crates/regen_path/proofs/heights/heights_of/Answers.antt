-- The heights of one node more.
use Rattle.std.proofs.Common.{◌≡◌, ◌+◌, ◌<◌, ℕ, List, length, get_or, sym, ap, ◌∙◌, subst, arith}
use Rattle.std.proofs.lemmas.Option.{slice_get-get_or}
use Rattle.regen_path.specs.declared.growing.Link.TheVariants.{Root}
use Rattle.regen_path.specs.declared.growing.Visit.{Visit}
use Rattle.regen_path.specs.declared.heights.Heights.{Heights}
use Rattle.regen_path.specs.Inner.Heights.{span_at, heights_by}
use Rattle.regen_path.proofs.Tall.{HeightsTo, heights_none, heights_more, heights_all, parent_within}
use Rattle.regen_path.proofs.heights.heights_of.Goals as goal

abbrev no_visit : Visit
no_visit = record { node = 0; link = Root }

pub loop-number-init : goal.loop-number-init
loop-number-init c = subst (HeightsTo c.args.visits.now c.args.lasts.now 0) (sym c.in_ok-heights.ensures.items) (heights_none c.args.visits.now c.args.lasts.now)

pub heights_by-found-requires : goal.heights_by-found-requires
heights_by-found-requires c = λ parent hangs.
    subst (λ (heights : List Heights). parent < length heights) (sym c.deref.ensures.value)
    (parent_within c.requires.order.0 c.args.visits.now c.requires.order.1 c.args.lasts.now c.loop-number.number (get_or c.args.visits.now c.loop-number.number no_visit) c.loop-number.heights.items
    (slice_get-get_or c.args.visits.now c.loop-number.number no_visit c.loop-number-test.true) c.loop-number.invariant parent hangs)

pub loop-number-preserved : goal.loop-number-preserved
loop-number-preserved c =
    let visit = get_or c.args.visits.now c.loop-number.number no_visit in
    subst (HeightsTo c.args.visits.now c.args.lasts.now (c.loop-number.number + 1)) (sym c.in_ok-push.ensures.items)
    (heights_more c.requires.order.0 c.args.visits.now c.requires.order.1 c.args.lasts.now c.loop-number.number visit c.loop-number.heights.items c.heights_by-found.result
    (slice_get-get_or c.args.visits.now c.loop-number.number no_visit c.loop-number-test.true)
    (c.heights_by-found.ensures ∙ ap (λ (heights : List Heights). heights_by (span_at c.args.lasts.now c.loop-number.number) heights visit.link) c.deref.ensures.value) c.loop-number.invariant)

pub returns : goal.returns
returns c =
    let equal : c.loop-number.number ≡ length c.args.visits.now = omega (arith, c.loop-number-test.false, c.loop-number.auto.number-end) in
    heights_all c.args.visits.now c.args.lasts.now c.loop-number.heights.items (subst (λ (n : ℕ). HeightsTo c.args.visits.now c.args.lasts.now n c.loop-number.heights.items) equal c.loop-number.invariant)

-- A node's last number is passed on to its parent, or isn't greater than that of the parent.
use Rattle.std.proofs.Common.{◌≡◌, ◌<◌, ℕ, Some, length, get_or, set, sym, subst, ◌∙◌, arith, rules}
use Rattle.std.specs.Prelude.{slice_get}
use Rattle.std.proofs.lemmas.Option.{slice_get-get_or}
use Rattle.regen_path.specs.declared.growing.Link.TheVariants.{Root}
use Rattle.regen_path.specs.declared.growing.Visit.{Visit}
use Rattle.regen_path.specs.Inner.Growing.{parent_of}
use Rattle.regen_path.specs.Inner.Heights.{LastsFrom}
use Rattle.regen_path.proofs.Chained.{get_or_any}
use Rattle.regen_path.proofs.LastUnder.{lasts_root, lasts_kept, lasts_raised}
use Rattle.regen_path.proofs.lasts.pass_up.Goals as goal

abbrev no_visit : Visit
no_visit = record { node = 0; link = Root }

pub returns-in_default : goal.returns-in_default
returns-in_default c = λ from.
    lasts_root c.requires.order.0 c.args.visits.now c.requires.order.1 c.args.number (get_or c.args.visits.now c.args.number no_visit) (slice_get-get_or c.args.visits.now c.args.number no_visit c.requires.within)
    c.args.lasts.now.items from (sym c.parent.ensures ∙ c.in_default.is)

pub index-requires : goal.index-requires
index-requires c =
    let lower = c.requires.order.1.lower c.args.number c.in-Some.parent (get_or c.args.visits.now c.args.number no_visit) (slice_get-get_or c.args.visits.now c.args.number no_visit c.requires.within) (sym c.parent.ensures ∙ c.in-Some.is) in
    let inside : c.in-Some.parent < length c.args.lasts.now.items = omega (arith, lower, c.requires.within, c.requires.long) in
    search rules

pub index_mut-requires : goal.index_mut-requires
index_mut-requires c =
    let lower = c.requires.order.1.lower c.args.number c.in-Some.parent (get_or c.args.visits.now c.args.number no_visit) (slice_get-get_or c.args.visits.now c.args.number no_visit c.requires.within) (sym c.parent.ensures ∙ c.in-Some.is) in
    let inside : c.in-Some.parent < length c.args.lasts.now.items = omega (arith, lower, c.requires.within, c.requires.long) in
    search rules

pub returns-then-last-index : goal.returns-then-last-index
returns-then-last-index c = λ from.
    let visit = get_or c.args.visits.now c.args.number no_visit in
    let is : slice_get c.args.visits.now c.args.number ≡ Some visit = slice_get-get_or c.args.visits.now c.args.number no_visit c.requires.within in
    let hangs : parent_of visit.link ≡ Some c.in-Some.parent = sym c.parent.ensures ∙ c.in-Some.is in
    let lower = c.requires.order.1.lower c.args.number c.in-Some.parent visit is hangs in
    let last_is : c.index-last.result.now ≡ get_or c.args.lasts.now.items c.args.number 0 = c.index-last.ensures ∙ get_or_any c.args.lasts.now.items c.args.number c.index-last.result.now 0 (omega (arith, c.requires.within, c.requires.long)) in
    let parent_is : c.index.result.now ≡ get_or c.args.lasts.now.items c.in-Some.parent 0 =
    c.index.ensures ∙ get_or_any c.args.lasts.now.items c.in-Some.parent c.index.result.now 0 (omega (arith, lower, c.requires.within, c.requires.long))
    in
    lasts_kept c.requires.order.0 c.args.visits.now c.requires.order.1 c.args.number visit is c.args.lasts.now.items from c.in-Some.parent hangs (omega (arith, last_is, parent_is, c.if-last-index.true))

pub returns : goal.returns
returns c = λ from.
    let visit = get_or c.args.visits.now c.args.number no_visit in
    let is : slice_get c.args.visits.now c.args.number ≡ Some visit = slice_get-get_or c.args.visits.now c.args.number no_visit c.requires.within in
    let hangs : parent_of visit.link ≡ Some c.in-Some.parent = sym c.parent.ensures ∙ c.in-Some.is in
    let lower = c.requires.order.1.lower c.args.number c.in-Some.parent visit is hangs in
    let last_is : c.index-last.result.now ≡ get_or c.args.lasts.now.items c.args.number 0 = c.index-last.ensures ∙ get_or_any c.args.lasts.now.items c.args.number c.index-last.result.now 0 (omega (arith, c.requires.within, c.requires.long)) in
    let parent_is : c.index.result.now ≡ get_or c.args.lasts.now.items c.in-Some.parent 0 =
    c.index.ensures ∙ get_or_any c.args.lasts.now.items c.in-Some.parent c.index.result.now 0 (omega (arith, lower, c.requires.within, c.requires.long))
    in
    subst (λ (n : ℕ). LastsFrom c.args.visits.now c.args.number (set c.args.lasts.now.items c.in-Some.parent n)) (sym last_is)
    (lasts_raised c.requires.order.0 c.args.visits.now c.requires.order.1 c.args.number visit is c.args.lasts.now.items from c.in-Some.parent hangs (omega (arith, last_is, parent_is, c.if-last-index.false)))

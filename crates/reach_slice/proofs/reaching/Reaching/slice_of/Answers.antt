-- The marked words are those of the slice.
use Rattle.std.proofs.Common.{◌≡◌, ℕ, List, Bool, sym, ap, subst, ◌∙◌}
use Rattle.std.specs.Prelude.{◌↔◌}
use Rattle.std.specs.List.{Contains}
use Rattle.std.specs.List.Sorted.{IsStrictlyIncreasing}
use Rattle.rv_code.specs.declared.image.Range.{Range}
use Rattle.rv_code.specs.Code.{extents_of}
use Rattle.rv_code.specs.Places.{AreCodeExtents}
use Rattle.reach_slice.specs.Marked.{marked_words}
use Rattle.reach_slice.specs.Slices.{IsInSlice}
use Rattle.reach_slice.proofs.Sliced.{marked_is_slice, marked_rise}
use Rattle.reach_slice.proofs.reaching.Reaching.slice_of.Goals as goal

pub returns-clause-words : goal.returns-clause-words
returns-clause-words c = λ word.
    let code : List Range = c.self.inside.predecessors in
    let is : c.in_ok-marked_words.field-0.items ≡ marked_words code c.in_ok-needed.needed.used.items =
    c.in_ok-marked_words.ensures
    ∙ (ap (λ (ranges : List Range). marked_words ranges c.deref.result.now) c.ranges-ranges.ensures.ranges
    ∙ ap (λ (marks : List Bool). marked_words code marks) c.deref.ensures.value)
    in
    let order : AreCodeExtents (extents_of code) = c.ranges-ranges.ensures.order in
    subst (λ (ranges : List Range). Contains c.in_ok-marked_words.field-0.items word ↔ IsInSlice ranges c.args.access word) c.self.view_is
    (subst (λ (words : List ℕ). Contains words word ↔ IsInSlice code c.args.access word) (sym is)
    (marked_is_slice code c.args.access c.in_ok-needed.needed.masks.items c.in_ok-needed.needed.used.items order c.in_ok-needed.ensures word))

pub returns-clause-order : goal.returns-clause-order
returns-clause-order c =
    let code : List Range = c.self.inside.predecessors in
    let is : c.in_ok-marked_words.field-0.items ≡ marked_words code c.in_ok-needed.needed.used.items =
    c.in_ok-marked_words.ensures
    ∙ (ap (λ (ranges : List Range). marked_words ranges c.deref.result.now) c.ranges-ranges.ensures.ranges
    ∙ ap (λ (marks : List Bool). marked_words code marks) c.deref.ensures.value)
    in
    subst (λ (words : List ℕ). IsStrictlyIncreasing words) (sym is) (marked_rise code c.in_ok-needed.needed.used.items c.ranges-ranges.ensures.order)

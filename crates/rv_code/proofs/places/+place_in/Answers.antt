-- The place is that in the first range, or that in the others behind all of its words.
use Rattle.std.proofs.Common.{Some, None, ap, sym, ◌∙◌, ◌+◌}
use Rattle.rv_code.proofs.LawsOfLookUps.{place_of-here, place_of-behind}
use Rattle.rv_code.proofs.places.+place_in.Goals as goal

pub returns-then-has_word-clause-place : goal.returns-then-has_word-clause-place
returns-then-has_word-clause-place t c =
    sym (place_of-here _ _ _ c.in-len1-up.len_at_least c.range-item.is c.requires.extents (sym c.has_word.ensures ∙ c.if-has_word.true))

pub returns-in_ok-place_in-in-len1-up-clause-place :
    goal.returns-in_ok-place_in-in-len1-up-clause-place
returns-in_ok-place_in-in-len1-up-clause-place t c =
    ap (λ count. Some (count + c.in_ok-place_in-in-len1-up.field-0)) c.count.ensures
    ∙ sym (place_of-behind c.args.ranges.now c.range-item.result c.args.address (Some c.in_ok-place_in-in-len1-up.field-0) c.in-len1-up.len_at_least c.range-item.is c.requires.extents
    (sym c.has_word.ensures ∙ c.if-has_word.false) (sym c.in_ok-place_in-in-len1-up.was ∙ c.place_in.ensures.place))

pub returns-in_err-place_in-in-len1-up-clause-place :
    goal.returns-in_err-place_in-in-len1-up-clause-place
returns-in_err-place_in-in-len1-up-clause-place t c =
    c.from_residual.ensures
    ∙ sym (place_of-behind c.args.ranges.now c.range-item.result c.args.address None c.in-len1-up.len_at_least c.range-item.is c.requires.extents
    (sym c.has_word.ensures ∙ c.if-has_word.false) (sym c.in_err-place_in-in-len1-up.was ∙ c.place_in.ensures.place))

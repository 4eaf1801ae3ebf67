-- The mask that is written has more registers, so its place waits.
use Rattle.std.proofs.Common.{refl, ◌∙◌, rules}
use Rattle.std.proofs.lemmas.Grind.{get_or_default_zero}
use Rattle.std.proofs.lemmas.Nat.{or_of_32}
use Rattle.need_sets.proofs.Spread.{need_spreads}
use Rattle.need_sets.proofs.search.Search.need.Goals as goal

pub returns-in_ok-add-clause-spreads : goal.returns-in_ok-add-clause-spreads
returns-in_ok-add-clause-spreads c =
    need_spreads c.args.self.now _ c.args.place c.index-known.result.now c.args.mask (c.index-known.ensures ∙ get_or_default_zero _ _ _ c.requires.within) c.requires.within refl refl c.if-known-mask.true (or_of_32 c.index-known.result.now c.args.mask (search rules) (search rules))
    c.in_ok-add.ensures.added c.in_ok-add.ensures.kept c.in_ok-add.ensures.longer

use Rattle.std.proofs.Common.{ap, ◌∙◌}
use Rattle.std.specs.Prelude.{is_some}
use Rattle.rv_code.proofs.LawsOfLookUps.{is_some-code_word}
use Rattle.need_sets.proofs.successors.fn.successors_in.is_code.Goals as goal

pub returns : goal.returns
returns c = c.is_some.ensures ∙ (ap is_some c.word_in.ensures ∙ is_some-code_word c.captures.ranges.now c.args.next)

use Rattle.std.proofs.Common.{ap, ◌∙◌}
use Rattle.std.specs.Prelude.{is_some}
use Rattle.rv_code.specs.Code.{code_word, extents_of, is_code}
use Rattle.rv_code.proofs.LawsOfLookUps.{is_some-code_word}
use Rattle.flow_graph.specs.CodeParts.{CodeParts}
use Rattle.flow_graph.proofs.graph.Graph.word_at.Goals as goal

pub returns-clause-code : goal.returns-clause-code
returns-clause-code c =
    ap is_some (c.word_in.ensures ∙ ap (λ ranges. code_word ranges c.args.address) c.as_slice.ensures)
    ∙ (is_some-code_word c.self.inside.code c.args.address
    ∙ ap (λ (parts : CodeParts). is_code (extents_of parts.code) c.args.address) c.self.view_is)

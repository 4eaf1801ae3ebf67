use Rattle.std.proofs.Common.{ap, ◌∙◌}
use Rattle.std.specs.Prelude.{is_some}
use Rattle.rv_code.specs.Code.{extents_of, is_code}
use Rattle.rv_code.specs.Places.{place_of}
use Rattle.rv_code.proofs.LawsOfLookUps.{is_some-place_of}
use Rattle.flow_graph.specs.CodeParts.{CodeParts}
use Rattle.flow_graph.proofs.graph.Graph.place_of.Goals as goal

pub returns-clause-code : goal.returns-clause-code
returns-clause-code c =
    ap is_some (c.place_in.ensures.place ∙ ap (λ ranges. place_of (extents_of ranges) c.args.address) c.as_slice.ensures)
    ∙ (is_some-place_of (extents_of c.self.inside.code) c.args.address c.self.invariant.order.each
    ∙ ap (λ (parts : CodeParts). is_code (extents_of parts.code) c.args.address) c.self.view_is)
